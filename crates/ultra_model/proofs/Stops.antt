-- worked runs of one stage in which a processing element stalls, halts or faults, and one whose sums go beyond a word
use Rattle.std.specs.Prelude.{◌≡◌, List, [], ◌∷◌, true, refl}
use Rattle.ultra_msg.specs.declared.{Op.TheVariants.Faa, Reply.TheVariants.Value}
use Rattle.ultra_msg.specs.declared.Give.TheVariants as give
use Rattle.ultra_isa.specs.declared.{Instr.Instr, MachineFault.TheVariants.{AddressOutOfRange, PastEnd}, Activity.TheVariants.{Running, Halted, Faulted}}
use Rattle.ultra_isa.specs.declared.Instr.TheVariants as instr
use Rattle.ultra_model.specs.{Places.places, Machine.{Settings, start}}
use Rattle.ultra_model.specs.Phases.{after, cycle, reply_phase, memory_phase, request_phase, processor_phase, arriving_reply, arriving_request}
use Rattle.ultra_model.proofs.Runs.{settings, request, marked, kept, got, act, meeting, issuing, pending, queued, waiting, holdings, stand, stands, summary}

abbrev one_stage : Settings
one_stage = settings 1 4 8 4 2 []

-- processing element 0 adds 1 to cell 0 twice, and 1 halts
abbrev twice_one_cell : List Instr
twice_one_cell = instr.Number 1 ∷ instr.JumpIfNotZero 1 5 ∷ instr.Set 2 1 ∷ instr.Faa 3 0 2 ∷ instr.Faa 4 0 2 ∷ instr.Halt ∷ []

open_cell_stall_place_after_2 : stands (after one_stage twice_one_cell 3) ≡ stand Running 3 ((2, 1) ∷ []) ∷ stand Halted 5 ((1, 1) ∷ []) ∷ []
unfolding after start cycle reply_phase memory_phase request_phase processor_phase arriving_reply arriving_request places
open_cell_stall_place_after_2 = refl

open_cell_stall_place_after_7 : stands (after one_stage twice_one_cell 8) ≡ stand Running 4 ((2, 1) ∷ []) ∷ stand Halted 5 ((1, 1) ∷ []) ∷ []
unfolding after start cycle reply_phase memory_phase request_phase processor_phase arriving_reply arriving_request places
open_cell_stall_place_after_7 = refl

-- the second issue stalls in cycles 4 to 7, since the cell is open
open_cell_stall : summary one_stage twice_one_cell 14 ≡ record {
  issues = issuing 3 (request 0 0 (Faa 1)) 0 ∷ issuing 8 (request 0 0 (Faa 1)) 1 ∷ [];
  meetings = [];
  acts = act 6 0 (request 0 0 (Faa 1)) (Value 0) 1 ∷ act 11 0 (request 0 0 (Faa 1)) (Value 1) 2 ∷ [];
  deliveries = got 8 0 0 (Value 0) ∷ got 13 0 0 (Value 1) ∷ [];
  quiet = 13 ∷ [];
  cells = (0, 2) ∷ [];
  stands = stand Halted 5 ((2, 1) ∷ (4, 1) ∷ []) ∷ stand Halted 5 ((1, 1) ∷ []) ∷ [];
}
unfolding after start cycle reply_phase memory_phase request_phase processor_phase arriving_reply arriving_request places
open_cell_stall = refl

-- cell 0 holds 1 at first
abbrev one_at_first : Settings
one_at_first = settings 1 4 8 4 2 ((0, 1) ∷ [])

-- each adds the greatest word to cell 0
abbrev add_greatest : List Instr
add_greatest = instr.Set 1 0 ∷ instr.Set 2 4294967295 ∷ instr.Faa 3 1 2 ∷ instr.Halt ∷ []

wraparound_after_3 : holdings (after one_at_first add_greatest 4) ≡
    queued 0 0 (marked 1 0 (Faa 4294967294) ∷ [])
    ∷ waiting 0 0 (kept 1 0 give.Same 0 (give.Plus 4294967295) ∷ [])
    ∷ []
unfolding after start cycle reply_phase memory_phase request_phase processor_phase arriving_reply arriving_request places
wraparound_after_3 = refl

wraparound : summary one_at_first add_greatest 8 ≡ record {
  issues = issuing 2 (request 0 0 (Faa 4294967295)) 0 ∷ issuing 2 (request 1 0 (Faa 4294967295)) 0 ∷ [];
  meetings = meeting 3 0 0 0 1 0 true ∷ [];
  acts = act 5 0 (request 1 0 (Faa 4294967294)) (Value 1) 4294967295 ∷ [];
  deliveries = got 7 0 0 (Value 0) ∷ got 7 1 0 (Value 1) ∷ [];
  quiet = 7 ∷ [];
  cells = (0, 4294967295) ∷ [];
  stands = stand Halted 3 ((2, 4294967295) ∷ []) ∷ stand Halted 3 ((2, 4294967295) ∷ (3, 1) ∷ []) ∷ [];
}
unfolding after start cycle reply_phase memory_phase request_phase processor_phase arriving_reply arriving_request places
wraparound = refl

halted : summary one_stage (instr.Halt ∷ []) 1 ≡ record {
  issues = [];
  meetings = [];
  acts = [];
  deliveries = [];
  quiet = 0 ∷ [];
  cells = [];
  stands = stand Halted 0 [] ∷ stand Halted 0 [] ∷ [];
}
unfolding after start cycle reply_phase memory_phase request_phase processor_phase arriving_reply arriving_request places
halted = refl

empty_program : summary one_stage [] 1 ≡ record {
  issues = [];
  meetings = [];
  acts = [];
  deliveries = [];
  quiet = 0 ∷ [];
  cells = [];
  stands = stand (Faulted PastEnd) 0 [] ∷ stand (Faulted PastEnd) 0 [] ∷ [];
}
unfolding after start cycle reply_phase memory_phase request_phase processor_phase arriving_reply arriving_request places
empty_program = refl

empty_program_stops : (after one_stage [] 1).stops ≡ record { pe = 0; fault = PastEnd } ∷ record { pe = 1; fault = PastEnd } ∷ []
unfolding after start cycle reply_phase memory_phase request_phase processor_phase arriving_reply arriving_request places
empty_program_stops = refl

-- each module has one cell
abbrev one_cell : Settings
one_cell = record (settings 1 4 8 4 2 []) { cells = 1 }

-- processing element p adds 1 to cell 2 * p
abbrev beyond : List Instr
beyond = instr.Number 1 ∷ instr.Add 1 1 1 ∷ instr.Set 2 1 ∷ instr.Faa 3 1 2 ∷ instr.Halt ∷ []

address_fault_stops : (after one_cell beyond 4).stops ≡ record { pe = 1; fault = AddressOutOfRange } ∷ []
unfolding after start cycle reply_phase memory_phase request_phase processor_phase arriving_reply arriving_request places
address_fault_stops = refl

address_fault_after_3 : holdings (after one_cell beyond 4) ≡
    pending 0 (request 0 0 (Faa 1) ∷ [])
    ∷ []
unfolding after start cycle reply_phase memory_phase request_phase processor_phase arriving_reply arriving_request places
address_fault_after_3 = refl

address_fault : summary one_cell beyond 9 ≡ record {
  issues = issuing 3 (request 0 0 (Faa 1)) 0 ∷ [];
  meetings = [];
  acts = act 6 0 (request 0 0 (Faa 1)) (Value 0) 1 ∷ [];
  deliveries = got 8 0 0 (Value 0) ∷ [];
  quiet = 8 ∷ [];
  cells = (0, 1) ∷ [];
  stands = stand Halted 4 ((2, 1) ∷ []) ∷ stand (Faulted AddressOutOfRange) 3 ((1, 2) ∷ (2, 1) ∷ []) ∷ [];
}
unfolding after start cycle reply_phase memory_phase request_phase processor_phase arriving_reply arriving_request places
address_fault = refl
