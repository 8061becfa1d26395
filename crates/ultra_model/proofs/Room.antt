-- worked runs in which there is no room: in a wait buffer, in a queue, in an interface
use Rattle.std.specs.Prelude.{◌≡◌, List, [], ◌∷◌, true, refl}
use Rattle.ultra_msg.specs.declared.{Op.TheVariants.Faa, Reply.TheVariants.Value}
use Rattle.ultra_msg.specs.declared.Give.TheVariants as give
use Rattle.ultra_isa.specs.declared.{Instr.Instr, Activity.TheVariants.{Running, Halted}}
use Rattle.ultra_isa.specs.declared.Instr.TheVariants as instr
use Rattle.ultra_model.specs.{Places.places, Machine.{Settings, start}}
use Rattle.ultra_model.specs.Phases.{after, cycle, reply_phase, memory_phase, request_phase, processor_phase, arriving_reply, arriving_request}
use Rattle.ultra_model.proofs.Runs.{settings, request, message, single, marked, kept, got, act, meeting, issuing, queued, waiting, entering, leaving, replying, holdings, stand, stands, summary}

abbrev one_wait_place : Settings
one_wait_place = settings 1 4 8 1 2 []

-- each adds 1 to cell 0, and then to cell 2, of the same module
abbrev cells_0_and_2 : List Instr
cells_0_and_2 = instr.Set 1 2 ∷ instr.Set 2 1 ∷ instr.Faa 3 0 2 ∷ instr.Faa 4 1 2 ∷ instr.Halt ∷ []

-- the pair for cell 2 finds no wait place
wait_buffer_full_after_4 : holdings (after one_wait_place cells_0_and_2 5) ≡
    queued 0 0 (single 0 2 (Faa 1) ∷ single 1 2 (Faa 1) ∷ [])
    ∷ waiting 0 0 (kept 1 0 give.Same 0 (give.Plus 1) ∷ [])
    ∷ entering 0 (request 1 0 (Faa 2))
    ∷ []
unfolding after start cycle reply_phase memory_phase request_phase processor_phase arriving_reply arriving_request places
wait_buffer_full_after_4 = refl

wait_buffer_full : summary one_wait_place cells_0_and_2 10 ≡ record {
  issues =
      issuing 2 (request 0 0 (Faa 1)) 0
      ∷ issuing 2 (request 1 0 (Faa 1)) 0
      ∷ issuing 3 (request 0 2 (Faa 1)) 1
      ∷ issuing 3 (request 1 2 (Faa 1)) 1
      ∷ [];
  meetings = meeting 3 0 0 0 1 0 true ∷ [];
  acts =
      act 5 0 (request 1 0 (Faa 2)) (Value 0) 2
      ∷ act 6 0 (request 0 2 (Faa 1)) (Value 0) 1
      ∷ act 7 0 (request 1 2 (Faa 1)) (Value 1) 2
      ∷ [];
  deliveries =
      got 7 0 0 (Value 1)
      ∷ got 7 1 0 (Value 0)
      ∷ got 8 0 2 (Value 0)
      ∷ got 9 1 2 (Value 1)
      ∷ [];
  quiet = 9 ∷ [];
  cells = (0, 2) ∷ (2, 2) ∷ [];
  stands = stand Halted 4 ((1, 2) ∷ (2, 1) ∷ (3, 1) ∷ []) ∷ stand Halted 4 ((1, 2) ∷ (2, 1) ∷ (4, 1) ∷ []) ∷ [];
}
unfolding after start cycle reply_phase memory_phase request_phase processor_phase arriving_reply arriving_request places
wait_buffer_full = refl

-- queues toward memory take requests only when they are empty
abbrev two_request_places : Settings
two_request_places = settings 2 2 8 0 2 []

-- each adds 1 to cell 0
abbrev add_one : List Instr
add_one = instr.Set 1 0 ∷ instr.Set 2 1 ∷ instr.Faa 3 1 2 ∷ instr.Halt ∷ []

-- the heads of the first stage stay in cycles 5 and 6
narrow_request_queues_after_3 : holdings (after two_request_places add_one 4) ≡
    queued 0 0 (single 2 0 (Faa 1) ∷ single 0 0 (Faa 1) ∷ [])
    ∷ queued 0 2 (single 3 0 (Faa 1) ∷ single 1 0 (Faa 1) ∷ [])
    ∷ []
unfolding after start cycle reply_phase memory_phase request_phase processor_phase arriving_reply arriving_request places
narrow_request_queues_after_3 = refl

narrow_request_queues_after_4 : holdings (after two_request_places add_one 5) ≡
    queued 0 0 (single 0 0 (Faa 1) ∷ [])
    ∷ queued 0 2 (single 1 0 (Faa 1) ∷ [])
    ∷ queued 1 0 (single 2 0 (Faa 1) ∷ single 3 0 (Faa 1) ∷ [])
    ∷ []
unfolding after start cycle reply_phase memory_phase request_phase processor_phase arriving_reply arriving_request places
narrow_request_queues_after_4 = refl

narrow_request_queues_after_5 : holdings (after two_request_places add_one 6) ≡
    queued 0 0 (single 0 0 (Faa 1) ∷ [])
    ∷ queued 0 2 (single 1 0 (Faa 1) ∷ [])
    ∷ queued 1 0 (single 3 0 (Faa 1) ∷ [])
    ∷ entering 0 (request 2 0 (Faa 1))
    ∷ []
unfolding after start cycle reply_phase memory_phase request_phase processor_phase arriving_reply arriving_request places
narrow_request_queues_after_5 = refl

narrow_request_queues_after_6 : holdings (after two_request_places add_one 7) ≡
    queued 0 0 (single 0 0 (Faa 1) ∷ [])
    ∷ queued 0 2 (single 1 0 (Faa 1) ∷ [])
    ∷ entering 0 (request 3 0 (Faa 1))
    ∷ leaving 0 (message 2 0 (Value 0))
    ∷ []
unfolding after start cycle reply_phase memory_phase request_phase processor_phase arriving_reply arriving_request places
narrow_request_queues_after_6 = refl

narrow_request_queues_after_7 : holdings (after two_request_places add_one 8) ≡
    queued 1 0 (single 1 0 (Faa 1) ∷ single 0 0 (Faa 1) ∷ [])
    ∷ leaving 0 (message 3 0 (Value 1))
    ∷ replying 1 0 (message 2 0 (Value 0) ∷ [])
    ∷ []
unfolding after start cycle reply_phase memory_phase request_phase processor_phase arriving_reply arriving_request places
narrow_request_queues_after_7 = refl

narrow_request_queues_after_8 : holdings (after two_request_places add_one 9) ≡
    queued 1 0 (single 0 0 (Faa 1) ∷ [])
    ∷ entering 0 (request 1 0 (Faa 1))
    ∷ replying 0 1 (message 2 0 (Value 0) ∷ [])
    ∷ replying 1 1 (message 3 0 (Value 1) ∷ [])
    ∷ []
unfolding after start cycle reply_phase memory_phase request_phase processor_phase arriving_reply arriving_request places
narrow_request_queues_after_8 = refl

narrow_request_queues : summary two_request_places add_one 14 ≡ record {
  issues =
      issuing 2 (request 0 0 (Faa 1)) 0
      ∷ issuing 2 (request 1 0 (Faa 1)) 0
      ∷ issuing 2 (request 2 0 (Faa 1)) 0
      ∷ issuing 2 (request 3 0 (Faa 1)) 0
      ∷ [];
  meetings = [];
  acts =
      act 6 0 (request 2 0 (Faa 1)) (Value 0) 1
      ∷ act 7 0 (request 3 0 (Faa 1)) (Value 1) 2
      ∷ act 9 0 (request 1 0 (Faa 1)) (Value 2) 3
      ∷ act 10 0 (request 0 0 (Faa 1)) (Value 3) 4
      ∷ [];
  deliveries =
      got 9 2 0 (Value 0)
      ∷ got 10 3 0 (Value 1)
      ∷ got 12 1 0 (Value 2)
      ∷ got 13 0 0 (Value 3)
      ∷ [];
  quiet = 13 ∷ [];
  cells = (0, 4) ∷ [];
  stands =
      stand Halted 3 ((2, 1) ∷ (3, 3) ∷ [])
      ∷ stand Halted 3 ((2, 1) ∷ (3, 2) ∷ [])
      ∷ stand Halted 3 ((2, 1) ∷ [])
      ∷ stand Halted 3 ((2, 1) ∷ (3, 1) ∷ [])
      ∷ [];
}
unfolding after start cycle reply_phase memory_phase request_phase processor_phase arriving_reply arriving_request places
narrow_request_queues = refl

-- queues toward the processing elements take replies only when both of a switch are empty
abbrev four_reply_places : Settings
four_reply_places = settings 1 4 4 4 2 []

abbrev eight_reply_places : Settings
eight_reply_places = settings 1 4 8 4 2 []

-- each adds 1 to cell 0, and then to cell 1, of another module
abbrev cells_0_and_1 : List Instr
cells_0_and_1 = instr.Set 1 1 ∷ instr.Set 2 1 ∷ instr.Faa 3 0 2 ∷ instr.Faa 4 1 2 ∷ instr.Halt ∷ []

-- the reply of module 1 stays there in cycle 7
narrow_reply_queues_after_6 : holdings (after four_reply_places cells_0_and_1 7) ≡
    waiting 0 1 (kept 0 1 give.Same 1 (give.Plus 1) ∷ [])
    ∷ leaving 1 (message 0 1 (Value 0))
    ∷ replying 0 0 (message 0 0 (Value 1) ∷ [])
    ∷ replying 0 1 (message 1 0 (Value 0) ∷ [])
    ∷ []
unfolding after start cycle reply_phase memory_phase request_phase processor_phase arriving_reply arriving_request places
narrow_reply_queues_after_6 = refl

narrow_reply_queues_after_7 : holdings (after four_reply_places cells_0_and_1 8) ≡
    waiting 0 1 (kept 0 1 give.Same 1 (give.Plus 1) ∷ [])
    ∷ leaving 1 (message 0 1 (Value 0))
    ∷ []
unfolding after start cycle reply_phase memory_phase request_phase processor_phase arriving_reply arriving_request places
narrow_reply_queues_after_7 = refl

narrow_reply_queues_after_8 : holdings (after four_reply_places cells_0_and_1 9) ≡
    replying 0 0 (message 0 1 (Value 0) ∷ [])
    ∷ replying 0 1 (message 1 1 (Value 1) ∷ [])
    ∷ []
unfolding after start cycle reply_phase memory_phase request_phase processor_phase arriving_reply arriving_request places
narrow_reply_queues_after_8 = refl

narrow_reply_queues : summary four_reply_places cells_0_and_1 10 ≡ record {
  issues =
      issuing 2 (request 0 0 (Faa 1)) 0
      ∷ issuing 2 (request 1 0 (Faa 1)) 0
      ∷ issuing 3 (request 0 1 (Faa 1)) 1
      ∷ issuing 3 (request 1 1 (Faa 1)) 1
      ∷ [];
  meetings = meeting 3 0 0 0 1 0 true ∷ meeting 4 0 1 1 0 1 true ∷ [];
  acts = act 5 0 (request 1 0 (Faa 2)) (Value 0) 2 ∷ act 6 1 (request 0 1 (Faa 2)) (Value 0) 2 ∷ [];
  deliveries =
      got 7 0 0 (Value 1)
      ∷ got 7 1 0 (Value 0)
      ∷ got 9 0 1 (Value 0)
      ∷ got 9 1 1 (Value 1)
      ∷ [];
  quiet = 9 ∷ [];
  cells = (0, 2) ∷ (1, 2) ∷ [];
  stands = stand Halted 4 ((1, 1) ∷ (2, 1) ∷ (3, 1) ∷ []) ∷ stand Halted 4 ((1, 1) ∷ (2, 1) ∷ (4, 1) ∷ []) ∷ [];
}
unfolding after start cycle reply_phase memory_phase request_phase processor_phase arriving_reply arriving_request places
narrow_reply_queues = refl

wide_reply_queues_after_7 : holdings (after eight_reply_places cells_0_and_1 8) ≡
    replying 0 0 (message 0 1 (Value 0) ∷ [])
    ∷ replying 0 1 (message 1 1 (Value 1) ∷ [])
    ∷ []
unfolding after start cycle reply_phase memory_phase request_phase processor_phase arriving_reply arriving_request places
wide_reply_queues_after_7 = refl

wide_reply_queues : summary eight_reply_places cells_0_and_1 9 ≡ record {
  issues =
      issuing 2 (request 0 0 (Faa 1)) 0
      ∷ issuing 2 (request 1 0 (Faa 1)) 0
      ∷ issuing 3 (request 0 1 (Faa 1)) 1
      ∷ issuing 3 (request 1 1 (Faa 1)) 1
      ∷ [];
  meetings = meeting 3 0 0 0 1 0 true ∷ meeting 4 0 1 1 0 1 true ∷ [];
  acts = act 5 0 (request 1 0 (Faa 2)) (Value 0) 2 ∷ act 6 1 (request 0 1 (Faa 2)) (Value 0) 2 ∷ [];
  deliveries =
      got 7 0 0 (Value 1)
      ∷ got 7 1 0 (Value 0)
      ∷ got 8 0 1 (Value 0)
      ∷ got 8 1 1 (Value 1)
      ∷ [];
  quiet = 8 ∷ [];
  cells = (0, 2) ∷ (1, 2) ∷ [];
  stands = stand Halted 4 ((1, 1) ∷ (2, 1) ∷ (3, 1) ∷ []) ∷ stand Halted 4 ((1, 1) ∷ (2, 1) ∷ (4, 1) ∷ []) ∷ [];
}
unfolding after start cycle reply_phase memory_phase request_phase processor_phase arriving_reply arriving_request places
wide_reply_queues = refl

abbrev one_open_cell : Settings
one_open_cell = settings 1 4 8 4 1 []

-- the second issue stalls in cycles 3 to 6
one_open_place_after_2 : stands (after one_open_cell cells_0_and_1 3) ≡ stand Running 3 ((1, 1) ∷ (2, 1) ∷ []) ∷ stand Running 3 ((1, 1) ∷ (2, 1) ∷ []) ∷ []
unfolding after start cycle reply_phase memory_phase request_phase processor_phase arriving_reply arriving_request places
one_open_place_after_2 = refl

one_open_place_after_6 : stands (after one_open_cell cells_0_and_1 7) ≡ stand Running 3 ((1, 1) ∷ (2, 1) ∷ []) ∷ stand Running 3 ((1, 1) ∷ (2, 1) ∷ []) ∷ []
unfolding after start cycle reply_phase memory_phase request_phase processor_phase arriving_reply arriving_request places
one_open_place_after_6 = refl

one_open_after_8 : holdings (after one_open_cell cells_0_and_1 9) ≡
    queued 0 1 (marked 0 1 (Faa 2) ∷ [])
    ∷ waiting 0 1 (kept 0 1 give.Same 1 (give.Plus 1) ∷ [])
    ∷ []
unfolding after start cycle reply_phase memory_phase request_phase processor_phase arriving_reply arriving_request places
one_open_after_8 = refl

one_open : summary one_open_cell cells_0_and_1 13 ≡ record {
  issues =
      issuing 2 (request 0 0 (Faa 1)) 0
      ∷ issuing 2 (request 1 0 (Faa 1)) 0
      ∷ issuing 7 (request 0 1 (Faa 1)) 1
      ∷ issuing 7 (request 1 1 (Faa 1)) 1
      ∷ [];
  meetings = meeting 3 0 0 0 1 0 true ∷ meeting 8 0 1 1 0 1 true ∷ [];
  acts = act 5 0 (request 1 0 (Faa 2)) (Value 0) 2 ∷ act 10 1 (request 0 1 (Faa 2)) (Value 0) 2 ∷ [];
  deliveries =
      got 7 0 0 (Value 1)
      ∷ got 7 1 0 (Value 0)
      ∷ got 12 0 1 (Value 0)
      ∷ got 12 1 1 (Value 1)
      ∷ [];
  quiet = 12 ∷ [];
  cells = (0, 2) ∷ (1, 2) ∷ [];
  stands = stand Halted 4 ((1, 1) ∷ (2, 1) ∷ (3, 1) ∷ []) ∷ stand Halted 4 ((1, 1) ∷ (2, 1) ∷ (4, 1) ∷ []) ∷ [];
}
unfolding after start cycle reply_phase memory_phase request_phase processor_phase arriving_reply arriving_request places
one_open = refl
