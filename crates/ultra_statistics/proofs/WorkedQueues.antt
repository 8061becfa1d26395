-- tables of worked runs, computed from the definition
use Rattle.std.specs.Prelude.{ℕ, ◌≡◌, List, [], ◌∷◌, ◌++◌, codes, refl}
use Rattle.std.specs.Fmt.{digits}
use Rattle.ultra_isa.specs.declared.Instr.{Instr}
use Rattle.ultra_isa.specs.declared.Instr.TheVariants as instr
use Rattle.ultra_model.specs.{Places.places, Machine.{Settings, start}, Balance.total, Trace.cycle_count}
use Rattle.ultra_model.specs.Phases.{after, cycle, reply_phase, memory_phase, request_phase, processor_phase, arriving_reply, arriving_request}
use Rattle.ultra_measure.specs.Window.{greatest}
use Rattle.ultra_statistics.specs.Queues.{queues_of}

abbrev one_stage : Settings
one_stage = record { stages = 1; request_places = 4; reply_places = 8; wait_places = 4; most_open = 2; cells = 16; cycles = 1000; initial = [] }

abbrev line : List ℕ → List ℕ
line text = text ++ 10 ∷ []

abbrev header : List ℕ
header =
    line (codes "from,to,stage,position,requests,combined,"
    ++ codes "request_queue_sum,request_queue_most,request_queue_full,"
    ++ codes "records_sum,records_most,full_waits,"
    ++ codes "replies,reply_queue_sum,reply_queue_most,reply_queue_full")

-- both processing elements add 1 to cell 0
abbrev add_one : List Instr
add_one = instr.Set 1 0 ∷ instr.Set 2 1 ∷ instr.Faa 3 1 2 ∷ instr.Halt ∷ []

combined_pair : queues_of 0 1000000 one_stage add_one ≡
    header
    ++ line (codes "0,8,0,0,1,1,1,1,0,3,1,0,1,1,1,0")
    ++ line (codes "0,8,0,1,0,0,0,0,0,0,0,0,1,1,1,0")
unfolding queues_of cycle_count after cycle start reply_phase memory_phase request_phase processor_phase arriving_reply arriving_request places total greatest digits
combined_pair = refl

-- a window behind the run
no_window : queues_of 8 9 one_stage add_one ≡ header
unfolding queues_of cycle_count after cycle start reply_phase memory_phase request_phase processor_phase arriving_reply arriving_request places total greatest digits
no_window = refl

-- each adds 1 to cell 1, and so to cell 0; the queues toward them are narrow
abbrev add_to_two : List Instr
add_to_two = instr.Set 1 1 ∷ instr.Set 2 1 ∷ instr.Faa 3 0 2 ∷ instr.Faa 4 1 2 ∷ instr.Halt ∷ []

narrow_replies : queues_of 0 1000000 record one_stage { reply_places = 4 } add_to_two ≡
    header
    ++ line (codes "0,10,0,0,1,1,1,1,0,3,1,0,2,2,1,2")
    ++ line (codes "0,10,0,1,1,1,1,1,0,4,1,0,2,2,1,2")
unfolding queues_of cycle_count after cycle start reply_phase memory_phase request_phase processor_phase arriving_reply arriving_request places total greatest digits
narrow_replies = refl
