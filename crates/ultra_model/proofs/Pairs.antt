-- worked runs of one stage, in which two requests for one cell meet in a queue: what is sent for both, and how both are answered
use Rattle.std.specs.Prelude.{◌≡◌, List, [], ◌∷◌, true, false, refl}
use Rattle.ultra_msg.specs.declared.{Op.TheVariants.{Load, Store, Faa}, Reply.TheVariants.{Value, Ack}}
use Rattle.ultra_msg.specs.declared.Give.TheVariants as give
use Rattle.ultra_isa.specs.declared.{Instr.Instr, Activity.TheVariants.Halted}
use Rattle.ultra_isa.specs.declared.Instr.TheVariants as instr
use Rattle.ultra_model.specs.{Places.places, Machine.{Settings, start}}
use Rattle.ultra_model.specs.Phases.{after, cycle, reply_phase, memory_phase, request_phase, processor_phase, arriving_reply, arriving_request}
use Rattle.ultra_model.proofs.Runs.{settings, request, message, single, marked, kept, got, act, meeting, issuing, pending, queued, waiting, entering, leaving, replying, holdings, stand, summary}

abbrev pub one_stage : Settings
one_stage = settings 1 4 8 4 2 []

-- each adds 1 to cell 0
abbrev pub add_one : List Instr
add_one = instr.Set 1 0 ∷ instr.Set 2 1 ∷ instr.Faa 3 1 2 ∷ instr.Halt ∷ []

combined_pair_after_0 : holdings (after one_stage add_one 1) ≡
    []
unfolding after start cycle reply_phase memory_phase request_phase processor_phase arriving_reply arriving_request places
combined_pair_after_0 = refl

combined_pair_after_1 : holdings (after one_stage add_one 2) ≡
    []
unfolding after start cycle reply_phase memory_phase request_phase processor_phase arriving_reply arriving_request places
combined_pair_after_1 = refl

combined_pair_after_2 : holdings (after one_stage add_one 3) ≡
    pending 0 (request 0 0 (Faa 1) ∷ [])
    ∷ pending 1 (request 1 0 (Faa 1) ∷ [])
    ∷ []
unfolding after start cycle reply_phase memory_phase request_phase processor_phase arriving_reply arriving_request places
combined_pair_after_2 = refl

combined_pair_after_3 : holdings (after one_stage add_one 4) ≡
    queued 0 0 (marked 1 0 (Faa 2) ∷ [])
    ∷ waiting 0 0 (kept 1 0 give.Same 0 (give.Plus 1) ∷ [])
    ∷ []
unfolding after start cycle reply_phase memory_phase request_phase processor_phase arriving_reply arriving_request places
combined_pair_after_3 = refl

combined_pair_after_4 : holdings (after one_stage add_one 5) ≡
    waiting 0 0 (kept 1 0 give.Same 0 (give.Plus 1) ∷ [])
    ∷ entering 0 (request 1 0 (Faa 2))
    ∷ []
unfolding after start cycle reply_phase memory_phase request_phase processor_phase arriving_reply arriving_request places
combined_pair_after_4 = refl

combined_pair_after_5 : holdings (after one_stage add_one 6) ≡
    waiting 0 0 (kept 1 0 give.Same 0 (give.Plus 1) ∷ [])
    ∷ leaving 0 (message 1 0 (Value 0))
    ∷ []
unfolding after start cycle reply_phase memory_phase request_phase processor_phase arriving_reply arriving_request places
combined_pair_after_5 = refl

combined_pair_after_6 : holdings (after one_stage add_one 7) ≡
    replying 0 0 (message 0 0 (Value 1) ∷ [])
    ∷ replying 0 1 (message 1 0 (Value 0) ∷ [])
    ∷ []
unfolding after start cycle reply_phase memory_phase request_phase processor_phase arriving_reply arriving_request places
combined_pair_after_6 = refl

combined_pair_after_7 : holdings (after one_stage add_one 8) ≡
    []
unfolding after start cycle reply_phase memory_phase request_phase processor_phase arriving_reply arriving_request places
combined_pair_after_7 = refl

combined_pair : summary one_stage add_one 8 ≡ record {
  issues = issuing 2 (request 0 0 (Faa 1)) 0 ∷ issuing 2 (request 1 0 (Faa 1)) 0 ∷ [];
  meetings = meeting 3 0 0 0 1 0 true ∷ [];
  acts = act 5 0 (request 1 0 (Faa 2)) (Value 0) 2 ∷ [];
  deliveries = got 7 0 0 (Value 1) ∷ got 7 1 0 (Value 0) ∷ [];
  quiet = 7 ∷ [];
  cells = (0, 2) ∷ [];
  stands = stand Halted 3 ((2, 1) ∷ (3, 1) ∷ []) ∷ stand Halted 3 ((2, 1) ∷ []) ∷ [];
}
unfolding after start cycle reply_phase memory_phase request_phase processor_phase arriving_reply arriving_request places
combined_pair = refl

-- a switch that has no wait places doesn't combine
abbrev without_wait_places : Settings
without_wait_places = settings 1 4 8 0 2 []

uncombined_pair_after_0 : holdings (after without_wait_places add_one 1) ≡
    []
unfolding after start cycle reply_phase memory_phase request_phase processor_phase arriving_reply arriving_request places
uncombined_pair_after_0 = refl

uncombined_pair_after_1 : holdings (after without_wait_places add_one 2) ≡
    []
unfolding after start cycle reply_phase memory_phase request_phase processor_phase arriving_reply arriving_request places
uncombined_pair_after_1 = refl

uncombined_pair_after_2 : holdings (after without_wait_places add_one 3) ≡
    pending 0 (request 0 0 (Faa 1) ∷ [])
    ∷ pending 1 (request 1 0 (Faa 1) ∷ [])
    ∷ []
unfolding after start cycle reply_phase memory_phase request_phase processor_phase arriving_reply arriving_request places
uncombined_pair_after_2 = refl

uncombined_pair_after_3 : holdings (after without_wait_places add_one 4) ≡
    queued 0 0 (single 1 0 (Faa 1) ∷ single 0 0 (Faa 1) ∷ [])
    ∷ []
unfolding after start cycle reply_phase memory_phase request_phase processor_phase arriving_reply arriving_request places
uncombined_pair_after_3 = refl

uncombined_pair : summary without_wait_places add_one 9 ≡ record {
  issues = issuing 2 (request 0 0 (Faa 1)) 0 ∷ issuing 2 (request 1 0 (Faa 1)) 0 ∷ [];
  meetings = [];
  acts = act 5 0 (request 1 0 (Faa 1)) (Value 0) 1 ∷ act 6 0 (request 0 0 (Faa 1)) (Value 1) 2 ∷ [];
  deliveries = got 7 1 0 (Value 0) ∷ got 8 0 0 (Value 1) ∷ [];
  quiet = 8 ∷ [];
  cells = (0, 2) ∷ [];
  stands = stand Halted 3 ((2, 1) ∷ (3, 1) ∷ []) ∷ stand Halted 3 ((2, 1) ∷ []) ∷ [];
}
unfolding after start cycle reply_phase memory_phase request_phase processor_phase arriving_reply arriving_request places
uncombined_pair = refl

-- cell 0 holds 5 at first
abbrev pub five_at_first : Settings
five_at_first = settings 1 4 8 4 2 ((0, 5) ∷ [])

-- processing element 0 loads cell 0, and 1 stores 7 into it
abbrev pub load_and_store : List Instr
load_and_store = instr.Set 2 7 ∷ instr.Number 1 ∷ instr.JumpIfNotZero 1 5 ∷ instr.Load 3 0 ∷ instr.Halt ∷ instr.Store 0 2 ∷ instr.Halt ∷ []

load_then_store_after_4 : holdings (after five_at_first load_and_store 5) ≡
    queued 0 0 (marked 0 0 (Store 7) ∷ [])
    ∷ waiting 0 0 (kept 0 0 (give.Fixed 7) 1 give.Ack ∷ [])
    ∷ []
unfolding after start cycle reply_phase memory_phase request_phase processor_phase arriving_reply arriving_request places
load_then_store_after_4 = refl

load_then_store : summary five_at_first load_and_store 9 ≡ record {
  issues = issuing 3 (request 0 0 Load) 0 ∷ issuing 3 (request 1 0 (Store 7)) 0 ∷ [];
  meetings = meeting 4 0 0 0 0 1 false ∷ [];
  acts = act 6 0 (request 0 0 (Store 7)) Ack 7 ∷ [];
  deliveries = got 8 0 0 (Value 7) ∷ got 8 1 0 Ack ∷ [];
  quiet = 8 ∷ [];
  cells = (0, 7) ∷ [];
  stands = stand Halted 4 ((2, 7) ∷ (3, 7) ∷ []) ∷ stand Halted 6 ((1, 1) ∷ (2, 7) ∷ []) ∷ [];
}
unfolding after start cycle reply_phase memory_phase request_phase processor_phase arriving_reply arriving_request places
load_then_store = refl

-- processing element 0 adds 3 to cell 0, and 1 stores 10 into it
abbrev pub add_and_store : List Instr
add_and_store = instr.Set 2 3 ∷ instr.Set 4 10 ∷ instr.Number 1 ∷ instr.JumpIfNotZero 1 6 ∷ instr.Faa 3 0 2 ∷ instr.Halt ∷ instr.Store 0 4 ∷ instr.Halt ∷ []

store_then_faa_after_5 : holdings (after one_stage add_and_store 6) ≡
    queued 0 0 (marked 1 0 (Store 13) ∷ [])
    ∷ waiting 0 0 (kept 1 0 give.Ack 0 (give.Fixed 10) ∷ [])
    ∷ []
unfolding after start cycle reply_phase memory_phase request_phase processor_phase arriving_reply arriving_request places
store_then_faa_after_5 = refl

store_then_faa : summary one_stage add_and_store 10 ≡ record {
  issues = issuing 4 (request 0 0 (Faa 3)) 0 ∷ issuing 4 (request 1 0 (Store 10)) 0 ∷ [];
  meetings = meeting 5 0 0 0 1 0 true ∷ [];
  acts = act 7 0 (request 1 0 (Store 13)) Ack 13 ∷ [];
  deliveries = got 9 0 0 (Value 10) ∷ got 9 1 0 Ack ∷ [];
  quiet = 9 ∷ [];
  cells = (0, 13) ∷ [];
  stands = stand Halted 5 ((2, 3) ∷ (3, 10) ∷ (4, 10) ∷ []) ∷ stand Halted 7 ((1, 1) ∷ (2, 3) ∷ (4, 10) ∷ []) ∷ [];
}
unfolding after start cycle reply_phase memory_phase request_phase processor_phase arriving_reply arriving_request places
store_then_faa = refl

-- processing element 0 stores 10 into cell 0, and 1 adds 3 to it
abbrev pub store_and_add : List Instr
store_and_add = instr.Set 2 3 ∷ instr.Set 4 10 ∷ instr.Number 1 ∷ instr.JumpIfNotZero 1 6 ∷ instr.Store 0 4 ∷ instr.Halt ∷ instr.Faa 3 0 2 ∷ instr.Halt ∷ []

faa_then_store_after_5 : holdings (after one_stage store_and_add 6) ≡
    queued 0 0 (marked 1 0 (Store 13) ∷ [])
    ∷ waiting 0 0 (kept 1 0 (give.Fixed 10) 0 give.Ack ∷ [])
    ∷ []
unfolding after start cycle reply_phase memory_phase request_phase processor_phase arriving_reply arriving_request places
faa_then_store_after_5 = refl

faa_then_store : summary one_stage store_and_add 10 ≡ record {
  issues = issuing 4 (request 0 0 (Store 10)) 0 ∷ issuing 4 (request 1 0 (Faa 3)) 0 ∷ [];
  meetings = meeting 5 0 0 0 1 0 false ∷ [];
  acts = act 7 0 (request 1 0 (Store 13)) Ack 13 ∷ [];
  deliveries = got 9 0 0 Ack ∷ got 9 1 0 (Value 10) ∷ [];
  quiet = 9 ∷ [];
  cells = (0, 13) ∷ [];
  stands = stand Halted 5 ((2, 3) ∷ (4, 10) ∷ []) ∷ stand Halted 7 ((1, 1) ∷ (2, 3) ∷ (3, 10) ∷ (4, 10) ∷ []) ∷ [];
}
unfolding after start cycle reply_phase memory_phase request_phase processor_phase arriving_reply arriving_request places
faa_then_store = refl
