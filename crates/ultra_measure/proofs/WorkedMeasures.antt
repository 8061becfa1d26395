-- measures of a worked run, computed from the definition
use Rattle.std.specs.Prelude.{ℕ, ◌≡◌, List, [], ◌∷◌, ◌++◌, codes, refl}
use Rattle.std.specs.Fmt.{digits}
use Rattle.ultra_isa.specs.declared.Instr.{Instr}
use Rattle.ultra_isa.specs.declared.Instr.TheVariants as instr
use Rattle.ultra_model.specs.{Places.places, Machine.{Settings, start}, Balance.total, Trace.{cycle_count, last_state}}
use Rattle.ultra_model.specs.Phases.{after, cycle, reply_phase, memory_phase, request_phase, processor_phase, arriving_reply, arriving_request}
use Rattle.ultra_measure.specs.{Window.greatest, Columns.measures, Texts.{job_rows, measure_text, measure_table, values_line}}
use Rattle.ultra_serial_law.specs.SerialList.{history}
use Rattle.ultra_latency.specs.Latency.{latest_issue}

abbrev one_stage : Settings
one_stage = record { stages = 1; request_places = 4; reply_places = 8; wait_places = 4; most_open = 2; cells = 16; cycles = 1000; initial = [] }

abbrev line : List ℕ → List ℕ
line text = text ++ 10 ∷ []

-- both processing elements add 1 to cell 0
abbrev add_one : List Instr
add_one = instr.Set 1 0 ∷ instr.Set 2 1 ∷ instr.Faa 3 1 2 ∷ instr.Halt ∷ []

-- each adds its number plus 1 to cell 0
abbrev add_number : List Instr
add_number = instr.Number 2 ∷ instr.AddWord 2 2 1 ∷ instr.Faa 3 0 2 ∷ instr.Halt ∷ []

combined_pair : measure_text one_stage add_one 0 1000000 ≡
    line (codes "stages 1")
    ++ line (codes "pes 2")
    ++ line (codes "request_places 4")
    ++ line (codes "reply_places 8")
    ++ line (codes "wait_places 4")
    ++ line (codes "open 2")
    ++ line (codes "cells 16")
    ++ line (codes "from 0")
    ++ line (codes "to 8")
    ++ line (codes "end quiet")
    ++ line (codes "issued 2")
    ++ line (codes "answered 2")
    ++ line (codes "acts 1")
    ++ line (codes "combined 1")
    ++ line (codes "faults 0")
    ++ line (codes "acts_most 1")
    ++ line (codes "latency_least 5")
    ++ line (codes "latency_greatest 5")
    ++ line (codes "latency_mean 5.000")
    ++ line (codes "running_sum 6")
    ++ line (codes "stalled_sum 0")
    ++ line (codes "open_sum 10")
    ++ line (codes "pni_sum 2")
    ++ line (codes "pni_most 1")
    ++ line (codes "inp_sum 1")
    ++ line (codes "out_sum 1")
    ++ line (codes "combined_0 1")
    ++ line (codes "request_queue_sum_0 1")
    ++ line (codes "request_queue_most_0 1")
    ++ line (codes "reply_queue_sum_0 2")
    ++ line (codes "reply_queue_most_0 1")
    ++ line (codes "records_sum_0 3")
    ++ line (codes "records_most_0 1")
    ++ line (codes "full_waits_0 0")
unfolding measure_text measures greatest total latest_issue history cycle_count last_state after cycle start reply_phase memory_phase request_phase processor_phase arriving_reply arriving_request places digits
combined_pair = refl

-- windows of 4 cycles
two_level_tree : measure_table record one_stage { stages = 2 } add_number 0 1000000 4 ≡
    line (codes "stages,pes,request_places,reply_places,wait_places,open,cells,from,to,end,issued,answered,acts,combined,faults,acts_most,latency_least,latency_greatest,latency_mean,running_sum,stalled_sum,open_sum,pni_sum,pni_most,inp_sum,out_sum,combined_0,request_queue_sum_0,request_queue_most_0,reply_queue_sum_0,reply_queue_most_0,records_sum_0,records_most_0,full_waits_0,combined_1,request_queue_sum_1,request_queue_most_1,reply_queue_sum_1,reply_queue_most_1,records_sum_1,records_most_1,full_waits_1,combined_2,request_queue_sum_2,request_queue_most_2,reply_queue_sum_2,reply_queue_most_2,records_sum_2,records_most_2,full_waits_2,combined_3,request_queue_sum_3,request_queue_most_3,reply_queue_sum_3,reply_queue_most_3,records_sum_3,records_most_3,full_waits_3,combined_4,request_queue_sum_4,request_queue_most_4,reply_queue_sum_4,reply_queue_most_4,records_sum_4,records_most_4,full_waits_4,combined_5,request_queue_sum_5,request_queue_most_5,reply_queue_sum_5,reply_queue_most_5,records_sum_5,records_most_5,full_waits_5")
    ++ line (codes "2,4,4,8,4,2,16,0,4,,4,0,0,2,0,0,,,,12,0,8,4,1,0,0,2,2,1,0,0,2,1,0,0,0,0,0,0,0,0,0,,,,,,,,,,,,,,,,,,,,,,,,,,,,,,,,")
    ++ line (codes "2,4,4,8,4,2,16,4,8,,0,0,1,1,0,1,,,,0,0,16,0,0,1,1,0,0,0,0,0,8,1,0,1,1,1,2,1,3,1,0,,,,,,,,,,,,,,,,,,,,,,,,,,,,,,,,")
    ++ line (codes "2,4,4,8,4,2,16,8,10,quiet,0,4,0,0,0,0,7,7,7.000,0,0,4,0,0,0,0,0,0,0,4,1,0,0,0,0,0,0,0,0,0,0,0,,,,,,,,,,,,,,,,,,,,,,,,,,,,,,,,")
unfolding measure_table measures greatest total latest_issue history cycle_count last_state after cycle start reply_phase memory_phase request_phase processor_phase arriving_reply arriving_request places digits
two_level_tree = refl

-- the rows of job 1 of a sweep, in windows of 3 cycles
rows_of_a_job : job_rows one_stage add_one 0 1000000 1 3 ≡
    line (codes "1,1,2,4,8,4,2,16,0,3,,2,0,0,0,0,0,,,,6,0,2,2,1,0,0,0,0,0,0,0,0,0,0,,,,,,,,,,,,,,,,,,,,,,,,,,,,,,,,,,,,,,,,")
    ++ line (codes "1,1,2,4,8,4,2,16,3,6,,0,0,1,1,0,1,,,,0,0,6,0,0,1,1,1,1,1,0,0,3,1,0,,,,,,,,,,,,,,,,,,,,,,,,,,,,,,,,,,,,,,,,")
    ++ line (codes "1,1,2,4,8,4,2,16,6,8,quiet,0,2,0,0,0,0,5,5,5.000,0,0,2,0,0,0,0,0,0,0,2,1,0,0,0,,,,,,,,,,,,,,,,,,,,,,,,,,,,,,,,,,,,,,,,")
unfolding job_rows measures greatest total latest_issue history cycle_count last_state after cycle start reply_phase memory_phase request_phase processor_phase arriving_reply arriving_request places digits
rows_of_a_job = refl

-- the limit ends the run
cycle_limit : measure_text record one_stage { cycles = 4 } add_one 0 1000000 ≡
    line (codes "stages 1")
    ++ line (codes "pes 2")
    ++ line (codes "request_places 4")
    ++ line (codes "reply_places 8")
    ++ line (codes "wait_places 4")
    ++ line (codes "open 2")
    ++ line (codes "cells 16")
    ++ line (codes "from 0")
    ++ line (codes "to 4")
    ++ line (codes "end limit")
    ++ line (codes "issued 2")
    ++ line (codes "answered 0")
    ++ line (codes "acts 0")
    ++ line (codes "combined 1")
    ++ line (codes "faults 0")
    ++ line (codes "acts_most 0")
    ++ line (codes "running_sum 6")
    ++ line (codes "stalled_sum 0")
    ++ line (codes "open_sum 4")
    ++ line (codes "pni_sum 2")
    ++ line (codes "pni_most 1")
    ++ line (codes "inp_sum 0")
    ++ line (codes "out_sum 0")
    ++ line (codes "combined_0 1")
    ++ line (codes "request_queue_sum_0 1")
    ++ line (codes "request_queue_most_0 1")
    ++ line (codes "reply_queue_sum_0 0")
    ++ line (codes "reply_queue_most_0 0")
    ++ line (codes "records_sum_0 1")
    ++ line (codes "records_most_0 1")
    ++ line (codes "full_waits_0 0")
unfolding measure_text measures greatest total latest_issue history cycle_count last_state after cycle start reply_phase memory_phase request_phase processor_phase arriving_reply arriving_request places digits
cycle_limit = refl

-- some of the cycles: windows of 3 from cycle 2 on
from_cycle_2 : measure_table one_stage add_one 2 1000000 3 ≡
    line (codes "stages,pes,request_places,reply_places,wait_places,open,cells,from,to,end,issued,answered,acts,combined,faults,acts_most,latency_least,latency_greatest,latency_mean,running_sum,stalled_sum,open_sum,pni_sum,pni_most,inp_sum,out_sum,combined_0,request_queue_sum_0,request_queue_most_0,reply_queue_sum_0,reply_queue_most_0,records_sum_0,records_most_0,full_waits_0,combined_1,request_queue_sum_1,request_queue_most_1,reply_queue_sum_1,reply_queue_most_1,records_sum_1,records_most_1,full_waits_1,combined_2,request_queue_sum_2,request_queue_most_2,reply_queue_sum_2,reply_queue_most_2,records_sum_2,records_most_2,full_waits_2,combined_3,request_queue_sum_3,request_queue_most_3,reply_queue_sum_3,reply_queue_most_3,records_sum_3,records_most_3,full_waits_3,combined_4,request_queue_sum_4,request_queue_most_4,reply_queue_sum_4,reply_queue_most_4,records_sum_4,records_most_4,full_waits_4,combined_5,request_queue_sum_5,request_queue_most_5,reply_queue_sum_5,reply_queue_most_5,records_sum_5,records_most_5,full_waits_5")
    ++ line (codes "1,2,4,8,4,2,16,2,5,,2,0,0,1,0,0,,,,2,0,6,2,1,1,0,1,1,1,0,0,2,1,0,,,,,,,,,,,,,,,,,,,,,,,,,,,,,,,,,,,,,,,,")
    ++ line (codes "1,2,4,8,4,2,16,5,8,quiet,0,2,1,0,0,1,5,5,5.000,0,0,4,0,0,0,1,0,0,0,2,1,1,1,0,,,,,,,,,,,,,,,,,,,,,,,,,,,,,,,,,,,,,,,,")
unfolding measure_table measures greatest total latest_issue history cycle_count last_state after cycle start reply_phase memory_phase request_phase processor_phase arriving_reply arriving_request places digits
from_cycle_2 = refl

-- the run goes on behind the window, so it doesn't say how it ended
from_3_to_6 : measure_text one_stage add_one 3 6 ≡
    line (codes "stages 1")
    ++ line (codes "pes 2")
    ++ line (codes "request_places 4")
    ++ line (codes "reply_places 8")
    ++ line (codes "wait_places 4")
    ++ line (codes "open 2")
    ++ line (codes "cells 16")
    ++ line (codes "from 3")
    ++ line (codes "to 7")
    ++ line (codes "issued 0")
    ++ line (codes "answered 0")
    ++ line (codes "acts 1")
    ++ line (codes "combined 1")
    ++ line (codes "faults 0")
    ++ line (codes "acts_most 1")
    ++ line (codes "running_sum 0")
    ++ line (codes "stalled_sum 0")
    ++ line (codes "open_sum 8")
    ++ line (codes "pni_sum 0")
    ++ line (codes "pni_most 0")
    ++ line (codes "inp_sum 1")
    ++ line (codes "out_sum 1")
    ++ line (codes "combined_0 1")
    ++ line (codes "request_queue_sum_0 1")
    ++ line (codes "request_queue_most_0 1")
    ++ line (codes "reply_queue_sum_0 2")
    ++ line (codes "reply_queue_most_0 1")
    ++ line (codes "records_sum_0 3")
    ++ line (codes "records_most_0 1")
    ++ line (codes "full_waits_0 0")
unfolding measure_text measures greatest total latest_issue history cycle_count last_state after cycle start reply_phase memory_phase request_phase processor_phase arriving_reply arriving_request places digits
from_3_to_6 = refl

-- the run has no cycle that is so late
no_lines : measure_text one_stage add_one 8 1000000 ≡ []
unfolding measure_text cycle_count after cycle start reply_phase memory_phase request_phase processor_phase arriving_reply arriving_request places
no_lines = refl

no_rows : job_rows one_stage add_one 8 1000000 1 3 ≡ []
unfolding job_rows cycle_count after cycle start reply_phase memory_phase request_phase processor_phase arriving_reply arriving_request places
no_rows = refl

-- ---- the values of whole runs
abbrev whole_run : Settings → List Instr → List ℕ
whole_run c program = values_line (measures c program 0 (cycle_count c program))

-- without wait buffers
uncombined_pair : whole_run record one_stage { wait_places = 0 } add_one ≡
    line (codes "1,2,4,8,0,2,16,0,9,quiet,2,2,2,0,0,2,5,6,5.500,6,0,11,2,1,2,2,0,3,2,2,1,0,0,0,,,,,,,,,,,,,,,,,,,,,,,,,,,,,,,,,,,,,,,,")
unfolding measures greatest total latest_issue history cycle_count last_state after cycle start reply_phase memory_phase request_phase processor_phase arriving_reply arriving_request places digits
uncombined_pair = refl

-- each adds 1 to the cell of twice its number, which the second doesn't have
abbrev add_beyond : List Instr
add_beyond = instr.Number 1 ∷ instr.Add 1 1 1 ∷ instr.Set 2 1 ∷ instr.Faa 3 1 2 ∷ instr.Halt ∷ []

address_fault : whole_run record one_stage { cells = 1 } add_beyond ≡
    line (codes "1,2,4,8,4,2,1,0,9,quiet,1,1,1,0,1,1,5,5,5.000,7,0,5,1,1,1,1,0,1,1,1,1,0,0,0,,,,,,,,,,,,,,,,,,,,,,,,,,,,,,,,,,,,,,,,")
unfolding measures greatest total latest_issue history cycle_count last_state after cycle start reply_phase memory_phase request_phase processor_phase arriving_reply arriving_request places digits
address_fault = refl

-- both wait for their answers
abbrev add_and_wait : List Instr
add_and_wait = instr.Set 1 0 ∷ instr.Set 2 1 ∷ instr.Faa 3 1 2 ∷ instr.Fence ∷ instr.Halt ∷ []

stalled_pair : whole_run one_stage add_and_wait ≡
    line (codes "1,2,4,8,4,2,16,0,9,quiet,2,2,1,1,0,1,5,5,5.000,16,10,10,2,1,1,1,1,1,1,2,1,3,1,0,,,,,,,,,,,,,,,,,,,,,,,,,,,,,,,,,,,,,,,,")
unfolding measures greatest total latest_issue history cycle_count last_state after cycle start reply_phase memory_phase request_phase processor_phase arriving_reply arriving_request places digits
stalled_pair = refl
