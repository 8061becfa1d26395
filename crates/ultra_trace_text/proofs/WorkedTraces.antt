-- traces of worked runs, computed from the definition
use Rattle.std.specs.Prelude.{ℕ, ◌≡◌, List, [], ◌∷◌, ◌++◌, codes, refl}
use Rattle.std.specs.Fmt.{digits}
use Rattle.ultra_isa.specs.declared.Instr.{Instr}
use Rattle.ultra_isa.specs.declared.Instr.TheVariants as instr
use Rattle.ultra_model.specs.{Places.places, Machine.{Settings, start}}
use Rattle.ultra_model.specs.Phases.{after, cycle, reply_phase, memory_phase, request_phase, processor_phase, arriving_reply, arriving_request}
use Rattle.ultra_model.specs.Trace.{trace, cycle_text, end_text, cycle_count, registers_text, all_cycles_text, last_state}

abbrev one_stage : Settings
one_stage = record { stages = 1; request_places = 4; reply_places = 8; wait_places = 4; most_open = 2; cells = 16; cycles = 1000; initial = [] }

abbrev line : List ℕ → List ℕ
line text = text ++ 10 ∷ []

-- both processing elements add 1 to cell 0
abbrev add_one : List Instr
add_one = instr.Set 1 0 ∷ instr.Set 2 1 ∷ instr.Faa 3 1 2 ∷ instr.Halt ∷ []

-- each adds its number plus 1 to cell 0
abbrev add_number : List Instr
add_number = instr.Number 2 ∷ instr.AddWord 2 2 1 ∷ instr.Faa 3 0 2 ∷ instr.Halt ∷ []

-- the first loads cell 0, the second stores into it
abbrev load_or_store : List Instr
load_or_store = instr.Set 2 7 ∷ instr.Number 1 ∷ instr.JumpIfNotZero 1 5 ∷ instr.Load 3 0 ∷ instr.Halt ∷ instr.Store 0 2 ∷ instr.Halt ∷ []

-- each adds 1 to the cell of twice its number
abbrev add_beyond : List Instr
add_beyond = instr.Number 1 ∷ instr.Add 1 1 1 ∷ instr.Set 2 1 ∷ instr.Faa 3 1 2 ∷ instr.Halt ∷ []

combined_pair : trace one_stage add_one ≡
    line (codes "ultra trace 2")
    ++ line (codes "cycle 0")
    ++ line (codes "cycle 1")
    ++ line (codes "cycle 2")
    ++ line (codes "pni 0: 0@0 faa 1")
    ++ line (codes "pni 1: 1@0 faa 1")
    ++ line (codes "cycle 3")
    ++ line (codes "req 0 0: 1@0 faa 2 *")
    ++ line (codes "wait 0 0: 1@0 same 0 plus 1")
    ++ line (codes "cycle 4")
    ++ line (codes "wait 0 0: 1@0 same 0 plus 1")
    ++ line (codes "inp 0: 1@0 faa 2")
    ++ line (codes "cycle 5")
    ++ line (codes "act 0 1@0 faa 2 = 0 now 2")
    ++ line (codes "wait 0 0: 1@0 same 0 plus 1")
    ++ line (codes "out 0: 1@0 = 0")
    ++ line (codes "cycle 6")
    ++ line (codes "rep 0 0: 0@0 = 1")
    ++ line (codes "rep 0 1: 1@0 = 0")
    ++ line (codes "cycle 7")
    ++ line (codes "got 0@0 = 1")
    ++ line (codes "got 1@0 = 0")
    ++ line (codes "end quiet")
    ++ line (codes "cell 0 2")
    ++ line (codes "pe 0 halted 3 r2=1 r3=1")
    ++ line (codes "pe 1 halted 3 r2=1")
unfolding trace all_cycles_text last_state cycle_count cycle_text end_text registers_text after cycle start reply_phase memory_phase request_phase processor_phase arriving_reply arriving_request places digits
combined_pair = refl

uncombined_pair : trace record one_stage { wait_places = 0 } add_one ≡
    line (codes "ultra trace 2")
    ++ line (codes "cycle 0")
    ++ line (codes "cycle 1")
    ++ line (codes "cycle 2")
    ++ line (codes "pni 0: 0@0 faa 1")
    ++ line (codes "pni 1: 1@0 faa 1")
    ++ line (codes "cycle 3")
    ++ line (codes "req 0 0: 1@0 faa 1, 0@0 faa 1")
    ++ line (codes "cycle 4")
    ++ line (codes "req 0 0: 0@0 faa 1")
    ++ line (codes "inp 0: 1@0 faa 1")
    ++ line (codes "cycle 5")
    ++ line (codes "act 0 1@0 faa 1 = 0 now 1")
    ++ line (codes "inp 0: 0@0 faa 1")
    ++ line (codes "out 0: 1@0 = 0")
    ++ line (codes "cycle 6")
    ++ line (codes "act 0 0@0 faa 1 = 1 now 2")
    ++ line (codes "out 0: 0@0 = 1")
    ++ line (codes "rep 0 1: 1@0 = 0")
    ++ line (codes "cycle 7")
    ++ line (codes "got 1@0 = 0")
    ++ line (codes "rep 0 0: 0@0 = 1")
    ++ line (codes "cycle 8")
    ++ line (codes "got 0@0 = 1")
    ++ line (codes "end quiet")
    ++ line (codes "cell 0 2")
    ++ line (codes "pe 0 halted 3 r2=1 r3=1")
    ++ line (codes "pe 1 halted 3 r2=1")
unfolding trace all_cycles_text last_state cycle_count cycle_text end_text registers_text after cycle start reply_phase memory_phase request_phase processor_phase arriving_reply arriving_request places digits
uncombined_pair = refl

two_level_tree : trace record one_stage { stages = 2 } add_number ≡
    line (codes "ultra trace 2")
    ++ line (codes "cycle 0")
    ++ line (codes "cycle 1")
    ++ line (codes "cycle 2")
    ++ line (codes "pni 0: 0@0 faa 1")
    ++ line (codes "pni 1: 1@0 faa 2")
    ++ line (codes "pni 2: 2@0 faa 3")
    ++ line (codes "pni 3: 3@0 faa 4")
    ++ line (codes "cycle 3")
    ++ line (codes "req 0 0: 2@0 faa 4 *")
    ++ line (codes "req 0 2: 3@0 faa 6 *")
    ++ line (codes "wait 0 0: 2@0 same 0 plus 3")
    ++ line (codes "wait 0 2: 3@0 same 1 plus 4")
    ++ line (codes "cycle 4")
    ++ line (codes "req 1 0: 2@0 faa 10 *")
    ++ line (codes "wait 0 0: 2@0 same 0 plus 3")
    ++ line (codes "wait 0 2: 3@0 same 1 plus 4")
    ++ line (codes "wait 1 0: 2@0 same 3 plus 4")
    ++ line (codes "cycle 5")
    ++ line (codes "wait 0 0: 2@0 same 0 plus 3")
    ++ line (codes "wait 0 2: 3@0 same 1 plus 4")
    ++ line (codes "wait 1 0: 2@0 same 3 plus 4")
    ++ line (codes "inp 0: 2@0 faa 10")
    ++ line (codes "cycle 6")
    ++ line (codes "act 0 2@0 faa 10 = 0 now 10")
    ++ line (codes "wait 0 0: 2@0 same 0 plus 3")
    ++ line (codes "wait 0 2: 3@0 same 1 plus 4")
    ++ line (codes "wait 1 0: 2@0 same 3 plus 4")
    ++ line (codes "out 0: 2@0 = 0")
    ++ line (codes "cycle 7")
    ++ line (codes "wait 0 0: 2@0 same 0 plus 3")
    ++ line (codes "wait 0 2: 3@0 same 1 plus 4")
    ++ line (codes "rep 1 0: 2@0 = 0")
    ++ line (codes "rep 1 1: 3@0 = 4")
    ++ line (codes "cycle 8")
    ++ line (codes "rep 0 0: 0@0 = 3")
    ++ line (codes "rep 0 1: 2@0 = 0")
    ++ line (codes "rep 0 2: 1@0 = 8")
    ++ line (codes "rep 0 3: 3@0 = 4")
    ++ line (codes "cycle 9")
    ++ line (codes "got 0@0 = 3")
    ++ line (codes "got 1@0 = 8")
    ++ line (codes "got 2@0 = 0")
    ++ line (codes "got 3@0 = 4")
    ++ line (codes "end quiet")
    ++ line (codes "cell 0 10")
    ++ line (codes "pe 0 halted 3 r2=1 r3=3")
    ++ line (codes "pe 1 halted 3 r2=2 r3=8")
    ++ line (codes "pe 2 halted 3 r2=3")
    ++ line (codes "pe 3 halted 3 r2=4 r3=4")
unfolding trace all_cycles_text last_state cycle_count cycle_text end_text registers_text after cycle start reply_phase memory_phase request_phase processor_phase arriving_reply arriving_request places digits
two_level_tree = refl

load_then_store : trace record one_stage { initial = (0, 5) ∷ [] } load_or_store ≡
    line (codes "ultra trace 2")
    ++ line (codes "cycle 0")
    ++ line (codes "cycle 1")
    ++ line (codes "cycle 2")
    ++ line (codes "cycle 3")
    ++ line (codes "pni 0: 0@0 load")
    ++ line (codes "pni 1: 1@0 store 7")
    ++ line (codes "cycle 4")
    ++ line (codes "req 0 0: 0@0 store 7 *")
    ++ line (codes "wait 0 0: 0@0 fixed 7 1 ack")
    ++ line (codes "cycle 5")
    ++ line (codes "wait 0 0: 0@0 fixed 7 1 ack")
    ++ line (codes "inp 0: 0@0 store 7")
    ++ line (codes "cycle 6")
    ++ line (codes "act 0 0@0 store 7 = ack now 7")
    ++ line (codes "wait 0 0: 0@0 fixed 7 1 ack")
    ++ line (codes "out 0: 0@0 = ack")
    ++ line (codes "cycle 7")
    ++ line (codes "rep 0 0: 0@0 = 7")
    ++ line (codes "rep 0 1: 1@0 = ack")
    ++ line (codes "cycle 8")
    ++ line (codes "got 0@0 = 7")
    ++ line (codes "got 1@0 = ack")
    ++ line (codes "end quiet")
    ++ line (codes "cell 0 7")
    ++ line (codes "pe 0 halted 4 r2=7 r3=7")
    ++ line (codes "pe 1 halted 6 r1=1 r2=7")
unfolding trace all_cycles_text last_state cycle_count cycle_text end_text registers_text after cycle start reply_phase memory_phase request_phase processor_phase arriving_reply arriving_request places digits
load_then_store = refl

halts_at_once : trace one_stage (instr.Halt ∷ []) ≡
    line (codes "ultra trace 2")
    ++ line (codes "cycle 0")
    ++ line (codes "end quiet")
    ++ line (codes "pe 0 halted 0")
    ++ line (codes "pe 1 halted 0")
unfolding trace all_cycles_text last_state cycle_count cycle_text end_text registers_text after cycle start reply_phase memory_phase request_phase processor_phase arriving_reply arriving_request places digits
halts_at_once = refl

empty_program : trace one_stage [] ≡
    line (codes "ultra trace 2")
    ++ line (codes "cycle 0")
    ++ line (codes "fault 0 f2")
    ++ line (codes "fault 1 f2")
    ++ line (codes "end quiet")
    ++ line (codes "pe 0 f2 0")
    ++ line (codes "pe 1 f2 0")
unfolding trace all_cycles_text last_state cycle_count cycle_text end_text registers_text after cycle start reply_phase memory_phase request_phase processor_phase arriving_reply arriving_request places digits
empty_program = refl

address_fault : trace record one_stage { cells = 1 } add_beyond ≡
    line (codes "ultra trace 2")
    ++ line (codes "cycle 0")
    ++ line (codes "cycle 1")
    ++ line (codes "cycle 2")
    ++ line (codes "cycle 3")
    ++ line (codes "fault 1 f1")
    ++ line (codes "pni 0: 0@0 faa 1")
    ++ line (codes "cycle 4")
    ++ line (codes "req 0 0: 0@0 faa 1")
    ++ line (codes "cycle 5")
    ++ line (codes "inp 0: 0@0 faa 1")
    ++ line (codes "cycle 6")
    ++ line (codes "act 0 0@0 faa 1 = 0 now 1")
    ++ line (codes "out 0: 0@0 = 0")
    ++ line (codes "cycle 7")
    ++ line (codes "rep 0 0: 0@0 = 0")
    ++ line (codes "cycle 8")
    ++ line (codes "got 0@0 = 0")
    ++ line (codes "end quiet")
    ++ line (codes "cell 0 1")
    ++ line (codes "pe 0 halted 4 r2=1")
    ++ line (codes "pe 1 f1 3 r1=2 r2=1")
unfolding trace all_cycles_text last_state cycle_count cycle_text end_text registers_text after cycle start reply_phase memory_phase request_phase processor_phase arriving_reply arriving_request places digits
address_fault = refl

cycle_limit : trace record one_stage { cycles = 4 } add_one ≡
    line (codes "ultra trace 2")
    ++ line (codes "cycle 0")
    ++ line (codes "cycle 1")
    ++ line (codes "cycle 2")
    ++ line (codes "pni 0: 0@0 faa 1")
    ++ line (codes "pni 1: 1@0 faa 1")
    ++ line (codes "cycle 3")
    ++ line (codes "req 0 0: 1@0 faa 2 *")
    ++ line (codes "wait 0 0: 1@0 same 0 plus 1")
    ++ line (codes "end limit")
    ++ line (codes "pe 0 halted 3 r2=1")
    ++ line (codes "pe 1 halted 3 r2=1")
unfolding trace all_cycles_text last_state cycle_count cycle_text end_text registers_text after cycle start reply_phase memory_phase request_phase processor_phase arriving_reply arriving_request places digits
cycle_limit = refl
