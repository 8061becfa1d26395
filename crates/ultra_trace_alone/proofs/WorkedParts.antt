-- parts of the trace of a worked run, computed from the definition
use Rattle.std.specs.Prelude.{ℕ, ◌≡◌, List, [], ◌∷◌, ◌++◌, codes, refl}
use Rattle.std.specs.Fmt.{digits}
use Rattle.ultra_isa.specs.declared.Instr.{Instr}
use Rattle.ultra_isa.specs.declared.Instr.TheVariants as instr
use Rattle.ultra_model.specs.{Places.places, Machine.{Settings, start}, Trace.{cycle_count, cycle_text, end_text, last_state, registers_text}}
use Rattle.ultra_model.specs.Phases.{after, cycle, reply_phase, memory_phase, request_phase, processor_phase, arriving_reply, arriving_request}
use Rattle.ultra_trace_alone.specs.{declared.part.CycleLines.TheVariants.{All, Events, None}, Part.part_of}

abbrev one_stage : Settings
one_stage = record { stages = 1; request_places = 4; reply_places = 8; wait_places = 4; most_open = 2; cells = 16; cycles = 1000; initial = [] }

abbrev line : List ℕ → List ℕ
line text = text ++ 10 ∷ []

-- both processing elements add 1 to cell 0
abbrev add_one : List Instr
add_one = instr.Set 1 0 ∷ instr.Set 2 1 ∷ instr.Faa 3 1 2 ∷ instr.Halt ∷ []

-- the lines at the end of their trace
abbrev end : List ℕ
end =
    line (codes "end quiet")
    ++ line (codes "cell 0 2")
    ++ line (codes "pe 0 halted 3 r2=1 r3=1")
    ++ line (codes "pe 1 halted 3 r2=1")

one_cycle : part_of record { from = 5; to = 5; lines = All } one_stage add_one ≡
    line (codes "ultra trace 2")
    ++ line (codes "part 5 5 all")
    ++ line (codes "cycle 5")
    ++ line (codes "act 0 1@0 faa 2 = 0 now 2")
    ++ line (codes "wait 0 0: 1@0 same 0 plus 1")
    ++ line (codes "out 0: 1@0 = 0")
    ++ end
unfolding part_of last_state cycle_count cycle_text end_text registers_text after cycle start reply_phase memory_phase request_phase processor_phase arriving_reply arriving_request places digits
one_cycle = refl

last_events : part_of record { from = 4; to = 1000000; lines = Events } one_stage add_one ≡
    line (codes "ultra trace 2")
    ++ line (codes "part 4 1000000 events")
    ++ line (codes "cycle 4")
    ++ line (codes "cycle 5")
    ++ line (codes "act 0 1@0 faa 2 = 0 now 2")
    ++ line (codes "cycle 6")
    ++ line (codes "cycle 7")
    ++ line (codes "got 0@0 = 1")
    ++ line (codes "got 1@0 = 0")
    ++ end
unfolding part_of last_state cycle_count cycle_text end_text registers_text after cycle start reply_phase memory_phase request_phase processor_phase arriving_reply arriving_request places digits
last_events = refl

no_cycle : part_of record { from = 0; to = 1000000; lines = None } one_stage add_one ≡ line (codes "ultra trace 2") ++ line (codes "part 0 1000000 end") ++ end
unfolding part_of last_state cycle_count cycle_text end_text registers_text after cycle start reply_phase memory_phase request_phase processor_phase arriving_reply arriving_request places digits
no_cycle = refl

-- the run has no cycle that is so late
beyond_the_end : part_of record { from = 900; to = 999999; lines = All } one_stage add_one ≡ line (codes "ultra trace 2") ++ line (codes "part 900 999999 all") ++ end
unfolding part_of last_state cycle_count cycle_text end_text registers_text after cycle start reply_phase memory_phase request_phase processor_phase arriving_reply arriving_request places digits
beyond_the_end = refl

two_cycles : part_of record { from = 5; to = 6; lines = All } one_stage add_one ≡
    line (codes "ultra trace 2")
    ++ line (codes "part 5 6 all")
    ++ line (codes "cycle 5")
    ++ line (codes "act 0 1@0 faa 2 = 0 now 2")
    ++ line (codes "wait 0 0: 1@0 same 0 plus 1")
    ++ line (codes "out 0: 1@0 = 0")
    ++ line (codes "cycle 6")
    ++ line (codes "rep 0 0: 0@0 = 1")
    ++ line (codes "rep 0 1: 1@0 = 0")
    ++ end
unfolding part_of last_state cycle_count cycle_text end_text registers_text after cycle start reply_phase memory_phase request_phase processor_phase arriving_reply arriving_request places digits
two_cycles = refl
