-- events and requests of worked runs, computed from the definitions
use Rattle.std.specs.Prelude.{ℕ, ◌≡◌, List, [], ◌∷◌, ◌++◌, codes, refl}
use Rattle.std.specs.Fmt.{digits}
use Rattle.ultra_isa.specs.declared.Instr.{Instr}
use Rattle.ultra_isa.specs.declared.Instr.TheVariants as instr
use Rattle.ultra_model.specs.{Places.places, Machine.{Settings, start}, Trace.cycle_count}
use Rattle.ultra_model.specs.Phases.{after, cycle, reply_phase, memory_phase, request_phase, processor_phase, arriving_reply, arriving_request}
use Rattle.ultra_serial_law.specs.SerialList.{history}
use Rattle.ultra_requests.specs.{EventLines.{events_of, lines_of_cycle}, RequestTable.requests_of}

abbrev one_stage : Settings
one_stage = record { stages = 1; request_places = 4; reply_places = 8; wait_places = 4; most_open = 2; cells = 16; cycles = 1000; initial = [] }

abbrev line : List ℕ → List ℕ
line text = text ++ 10 ∷ []

abbrev header : List ℕ
header = line (codes "pe,number,op,cell,word,issued,answered,reply")

-- both processing elements add 1 to cell 0
abbrev add_one : List Instr
add_one = instr.Set 1 0 ∷ instr.Set 2 1 ∷ instr.Faa 3 1 2 ∷ instr.Halt ∷ []

events_of_pair : events_of 0 1000000 one_stage add_one ≡
    line (codes "2 issue 0.0@0 faa 1")
    ++ line (codes "2 issue 1.0@0 faa 1")
    ++ line (codes "3 combine s0x0 1.0@0 < 0.0@0")
    ++ line (codes "5 act 0 1.0@0 faa 2 = 0 now 2")
    ++ line (codes "7 answer 0.0@0 = 1")
    ++ line (codes "7 answer 1.0@0 = 0")
unfolding events_of lines_of_cycle history cycle_count after cycle start reply_phase memory_phase request_phase processor_phase arriving_reply arriving_request places digits
events_of_pair = refl

requests_of_pair : requests_of one_stage add_one ≡
    header
    ++ line (codes "0,0,faa,0,1,2,7,1")
    ++ line (codes "1,0,faa,0,1,2,7,0")
unfolding requests_of history cycle_count after cycle start reply_phase memory_phase request_phase processor_phase arriving_reply arriving_request places digits
requests_of_pair = refl

-- the limit ends the run before the answers
requests_at_limit : requests_of record one_stage { cycles = 4 } add_one ≡
    header
    ++ line (codes "0,0,faa,0,1,2,,")
    ++ line (codes "1,0,faa,0,1,2,,")
unfolding requests_of history cycle_count after cycle start reply_phase memory_phase request_phase processor_phase arriving_reply arriving_request places digits
requests_at_limit = refl

-- the first loads cell 0, the second stores 7 there
abbrev load_then_store : List Instr
load_then_store = instr.Set 2 7 ∷ instr.Number 1 ∷ instr.JumpIfNotZero 1 5 ∷ instr.Load 3 0 ∷ instr.Halt ∷ instr.Store 0 2 ∷ instr.Halt ∷ []

events_of_load : events_of 4 6 record one_stage { initial = (0, 5) ∷ [] } load_then_store ≡
    line (codes "4 combine s0x0 0.0@0 > 1.0@0")
    ++ line (codes "6 act 0 0.0@0 store 7 = ack now 7")
unfolding events_of lines_of_cycle history cycle_count after cycle start reply_phase memory_phase request_phase processor_phase arriving_reply arriving_request places digits
events_of_load = refl

requests_of_load : requests_of record one_stage { initial = (0, 5) ∷ [] } load_then_store ≡
    header
    ++ line (codes "0,0,load,0,,3,8,7")
    ++ line (codes "1,0,store,0,7,3,8,ack")
unfolding requests_of history cycle_count after cycle start reply_phase memory_phase request_phase processor_phase arriving_reply arriving_request places digits
requests_of_load = refl

-- each adds 1 to the cell of twice its number, which the second doesn't have
abbrev add_beyond : List Instr
add_beyond = instr.Number 1 ∷ instr.Add 1 1 1 ∷ instr.Set 2 1 ∷ instr.Faa 3 1 2 ∷ instr.Halt ∷ []

events_of_fault : events_of 0 3 record one_stage { cells = 1 } add_beyond ≡
    line (codes "3 issue 0.0@0 faa 1")
    ++ line (codes "3 fault 1 f1")
unfolding events_of lines_of_cycle history cycle_count after cycle start reply_phase memory_phase request_phase processor_phase arriving_reply arriving_request places digits
events_of_fault = refl
