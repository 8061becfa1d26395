-- worked hot spots: what the law says, of small machines by computation. In the last of them the wait buffers have no place, and combining does not happen
use Rattle.std.specs.Prelude.{◌≡◌, ℕ, List, [], ◌∷◌, true, refl, map}
use Rattle.std.specs.List.{filter, range_with_len}
use Rattle.ultra_msg.specs.declared.{Request.Request, Op.TheVariants.Faa, Reply.TheVariants.Value}
use Rattle.ultra_isa.specs.declared.Instr.{Instr}
use Rattle.ultra_isa.specs.declared.Instr.TheVariants as instr
use Rattle.ultra_model.specs.{Places.places, Machine.{Settings, start}}
use Rattle.ultra_model.specs.Phases.{after, cycle, reply_phase, memory_phase, request_phase, processor_phase, arriving_reply, arriving_request}
use Rattle.ultra_model.proofs.Runs.{is_delivery, request, got, pending, holdings, settings, history as happened}
use Rattle.ultra_model.proofs.{Pairs.{one_stage, add_one}, Levels.{two_stages, add_number}}
use Rattle.ultra_serial_law.specs.{Tree.{Tree, leaf, pair}, SerialList.history, HotSpot.trees_taken}
use Rattle.ultra_serial_law.specs.AllAtOnce.{acts_on, later_events}

-- the requests for cell a that are served in each of k cycles from cycle n on
abbrev acts_by_cycle : Settings → List Instr → ℕ → ℕ → ℕ → List (List Request)
acts_by_cycle c program n a count = map (λ k. acts_on a (later_events c program n a k)) (range_with_len 0 count)

-- one stage: the act is in cycle 2 of the hot requests
one_stage_is_set : holdings (after one_stage add_one 3) ≡ pending 0 (request 0 0 (Faa 1) ∷ []) ∷ pending 1 (request 1 0 (Faa 1) ∷ []) ∷ []
unfolding after start cycle reply_phase memory_phase request_phase processor_phase arriving_reply arriving_request places
one_stage_is_set = refl

one_stage_acts : acts_by_cycle one_stage add_one 3 0 5 ≡ [] ∷ [] ∷ (request 1 0 (Faa 2) ∷ []) ∷ [] ∷ [] ∷ []
unfolding after start cycle reply_phase memory_phase request_phase processor_phase arriving_reply arriving_request places
one_stage_acts = refl

-- two stages: the act is in cycle 3 of the hot requests, and the answers are in cycle 6
two_stages_acts : acts_by_cycle two_stages add_number 3 0 7 ≡ [] ∷ [] ∷ [] ∷ (request 2 0 (Faa 10) ∷ []) ∷ [] ∷ [] ∷ [] ∷ []
unfolding after start cycle reply_phase memory_phase request_phase processor_phase arriving_reply arriving_request places
two_stages_acts = refl

-- the request of a processing element for cell 0
abbrev added : ℕ → ℕ → Tree
added p word = leaf record { pe = p; number = 0; cell = 0; op = Faa word }

two_stages_tree : trees_taken 0 (history two_stages add_number 6).trees (later_events two_stages add_number 3 0 3) ≡
    pair 1 0 (pair 0 0 (added 2 3) (added 0 1) true) (pair 0 2 (added 3 4) (added 1 2) true) true ∷ []
unfolding history after start cycle reply_phase memory_phase request_phase processor_phase arriving_reply arriving_request places
two_stages_tree = refl

-- three stages: the act is in cycle 4 of the hot requests
abbrev three_stages : Settings
three_stages = settings 3 4 8 4 2 []

three_stages_tree : trees_taken 0 (history three_stages add_one 7).trees (later_events three_stages add_one 3 0 4) ≡
    pair 2 0
    (pair 1 4 (pair 0 2 (added 5 1) (added 1 1) true) (pair 0 6 (added 7 1) (added 3 1) true) true)
    (pair 1 0 (pair 0 0 (added 4 1) (added 0 1) true) (pair 0 4 (added 6 1) (added 2 1) true) true)
    true
    ∷ []
unfolding history after start cycle reply_phase memory_phase request_phase processor_phase arriving_reply arriving_request places
three_stages_tree = refl

-- what else the processing elements ask for meanwhile comes behind the hot requests: each adds to cell 0, and then to the cell of its number and 1
abbrev add_twice : List Instr
add_twice = instr.Number 2 ∷ instr.AddWord 2 2 1 ∷ instr.Faa 3 0 2 ∷ instr.Faa 4 2 2 ∷ instr.Halt ∷ []

going_on_acts : acts_by_cycle two_stages add_twice 3 0 7 ≡ [] ∷ [] ∷ [] ∷ (request 2 0 (Faa 10) ∷ []) ∷ [] ∷ [] ∷ [] ∷ []
unfolding after start cycle reply_phase memory_phase request_phase processor_phase arriving_reply arriving_request places
going_on_acts = refl

going_on_elsewhere : acts_by_cycle two_stages add_twice 3 1 7 ≡ [] ∷ [] ∷ [] ∷ [] ∷ (request 0 1 (Faa 1) ∷ []) ∷ [] ∷ [] ∷ []
unfolding after start cycle reply_phase memory_phase request_phase processor_phase arriving_reply arriving_request places
going_on_elsewhere = refl

going_on_answers : filter (λ d. is_delivery d) (happened two_stages add_twice 10) ≡ got 9 0 0 (Value 3) ∷ got 9 1 0 (Value 8) ∷ got 9 2 0 (Value 0) ∷ got 9 3 0 (Value 4) ∷ []
unfolding after start cycle reply_phase memory_phase request_phase processor_phase arriving_reply arriving_request places
going_on_answers = refl

-- where the wait buffers have no place, each request is served by itself
abbrev no_wait_places : Settings
no_wait_places = record one_stage { wait_places = 0 }

one_by_one : acts_by_cycle no_wait_places add_one 3 0 5 ≡ [] ∷ [] ∷ (request 1 0 (Faa 1) ∷ []) ∷ (request 0 0 (Faa 1) ∷ []) ∷ [] ∷ []
unfolding after start cycle reply_phase memory_phase request_phase processor_phase arriving_reply arriving_request places
one_by_one = refl
