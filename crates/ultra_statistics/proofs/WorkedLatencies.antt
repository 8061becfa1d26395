-- latencies of a worked run, computed from the definition
use Rattle.std.specs.Prelude.{ℕ, ◌≡◌, List, [], ◌∷◌, ◌++◌, codes, refl}
use Rattle.std.specs.Fmt.{digits}
use Rattle.ultra_isa.specs.declared.Instr.{Instr}
use Rattle.ultra_isa.specs.declared.Instr.TheVariants as instr
use Rattle.ultra_model.specs.{Places.places, Machine.{Settings, start}, Trace.cycle_count}
use Rattle.ultra_model.specs.Phases.{after, cycle, reply_phase, memory_phase, request_phase, processor_phase, arriving_reply, arriving_request}
use Rattle.ultra_serial_law.specs.SerialList.{history}
use Rattle.ultra_latency.specs.Latency.{latest_issue}
use Rattle.ultra_statistics.specs.Latencies.{latencies_of_run}

abbrev one_stage : Settings
one_stage = record { stages = 1; request_places = 4; reply_places = 8; wait_places = 0; most_open = 2; cells = 16; cycles = 1000; initial = [] }

abbrev line : List ℕ → List ℕ
line text = text ++ 10 ∷ []

-- both processing elements add 1 to cell 0, and their requests can't combine
abbrev add_one : List Instr
add_one = instr.Set 1 0 ∷ instr.Set 2 1 ∷ instr.Faa 3 1 2 ∷ instr.Halt ∷ []

uncombined_pair : latencies_of_run 0 1000000 one_stage add_one ≡
    line (codes "latency,answered")
    ++ line (codes "5,1")
    ++ line (codes "6,1")
unfolding latencies_of_run latest_issue history cycle_count after cycle start reply_phase memory_phase request_phase processor_phase arriving_reply arriving_request places digits
uncombined_pair = refl
