-- worked runs of two stages: combining again at the second stage, and the way back through both
use Rattle.std.specs.Prelude.{◌≡◌, List, [], ◌∷◌, true, refl}
use Rattle.ultra_msg.specs.declared.{Op.TheVariants.{Load, Store, Faa}, Reply.TheVariants.{Value, Ack}}
use Rattle.ultra_msg.specs.declared.Give.TheVariants as give
use Rattle.ultra_isa.specs.declared.{Instr.Instr, Activity.TheVariants.Halted}
use Rattle.ultra_isa.specs.declared.Instr.TheVariants as instr
use Rattle.ultra_model.specs.{Places.places, Machine.{Settings, start}}
use Rattle.ultra_model.specs.Phases.{after, cycle, reply_phase, memory_phase, request_phase, processor_phase, arriving_reply, arriving_request}
use Rattle.ultra_model.proofs.Runs.{settings, request, message, single, marked, kept, got, act, meeting, issuing, queued, waiting, entering, leaving, replying, holdings, stand, summary}

abbrev pub two_stages : Settings
two_stages = settings 2 4 8 4 2 []

-- processing element p adds p + 1 to cell 0
abbrev pub add_number : List Instr
add_number = instr.Number 2 ∷ instr.AddWord 2 2 1 ∷ instr.Faa 3 0 2 ∷ instr.Halt ∷ []

two_level_tree_after_4 : holdings (after two_stages add_number 5) ≡
    queued 1 0 (marked 2 0 (Faa 10) ∷ [])
    ∷ waiting 0 0 (kept 2 0 give.Same 0 (give.Plus 3) ∷ [])
    ∷ waiting 0 2 (kept 3 0 give.Same 1 (give.Plus 4) ∷ [])
    ∷ waiting 1 0 (kept 2 0 give.Same 3 (give.Plus 4) ∷ [])
    ∷ []
unfolding after start cycle reply_phase memory_phase request_phase processor_phase arriving_reply arriving_request places
two_level_tree_after_4 = refl

two_level_tree_after_7 : holdings (after two_stages add_number 8) ≡
    waiting 0 0 (kept 2 0 give.Same 0 (give.Plus 3) ∷ [])
    ∷ waiting 0 2 (kept 3 0 give.Same 1 (give.Plus 4) ∷ [])
    ∷ replying 1 0 (message 2 0 (Value 0) ∷ [])
    ∷ replying 1 1 (message 3 0 (Value 4) ∷ [])
    ∷ []
unfolding after start cycle reply_phase memory_phase request_phase processor_phase arriving_reply arriving_request places
two_level_tree_after_7 = refl

two_level_tree_after_8 : holdings (after two_stages add_number 9) ≡
    replying 0 0 (message 0 0 (Value 3) ∷ [])
    ∷ replying 0 1 (message 2 0 (Value 0) ∷ [])
    ∷ replying 0 2 (message 1 0 (Value 8) ∷ [])
    ∷ replying 0 3 (message 3 0 (Value 4) ∷ [])
    ∷ []
unfolding after start cycle reply_phase memory_phase request_phase processor_phase arriving_reply arriving_request places
two_level_tree_after_8 = refl

two_level_tree : summary two_stages add_number 10 ≡ record {
  issues =
      issuing 2 (request 0 0 (Faa 1)) 0
      ∷ issuing 2 (request 1 0 (Faa 2)) 0
      ∷ issuing 2 (request 2 0 (Faa 3)) 0
      ∷ issuing 2 (request 3 0 (Faa 4)) 0
      ∷ [];
  meetings =
      meeting 3 0 0 0 2 0 true
      ∷ meeting 3 0 2 0 3 1 true
      ∷ meeting 4 1 0 0 2 3 true
      ∷ [];
  acts = act 6 0 (request 2 0 (Faa 10)) (Value 0) 10 ∷ [];
  deliveries =
      got 9 0 0 (Value 3)
      ∷ got 9 1 0 (Value 8)
      ∷ got 9 2 0 (Value 0)
      ∷ got 9 3 0 (Value 4)
      ∷ [];
  quiet = 9 ∷ [];
  cells = (0, 10) ∷ [];
  stands =
      stand Halted 3 ((2, 1) ∷ (3, 3) ∷ [])
      ∷ stand Halted 3 ((2, 2) ∷ (3, 8) ∷ [])
      ∷ stand Halted 3 ((2, 3) ∷ [])
      ∷ stand Halted 3 ((2, 4) ∷ (3, 4) ∷ [])
      ∷ [];
}
unfolding after start cycle reply_phase memory_phase request_phase processor_phase arriving_reply arriving_request places
two_level_tree = refl

-- processing element p adds p + 1 to cell 0, and all but 0 load cell p + 1 before
abbrev load_then_add : List Instr
load_then_add = instr.Number 1 ∷ instr.AddWord 5 1 1 ∷ instr.JumpIfZero 1 4 ∷ instr.Load 6 5 ∷ instr.Faa 7 3 5 ∷ instr.Halt ∷ []

-- a marked entry takes no second partner
marked_once_after_6 : holdings (after two_stages load_then_add 7) ≡
    queued 1 0 (marked 0 0 (Faa 4) ∷ single 3 0 (Faa 6) ∷ [])
    ∷ waiting 0 2 (kept 3 0 give.Same 1 (give.Plus 4) ∷ [])
    ∷ waiting 1 0 (kept 0 0 give.Same 2 (give.Plus 1) ∷ [])
    ∷ entering 0 (request 3 4 Load)
    ∷ entering 2 (request 1 2 Load)
    ∷ entering 3 (request 2 3 Load)
    ∷ []
unfolding after start cycle reply_phase memory_phase request_phase processor_phase arriving_reply arriving_request places
marked_once_after_6 = refl

marked_once : summary two_stages load_then_add 13 ≡ record {
  issues =
      issuing 3 (request 0 0 (Faa 1)) 0
      ∷ issuing 3 (request 1 2 Load) 0
      ∷ issuing 3 (request 2 3 Load) 0
      ∷ issuing 3 (request 3 4 Load) 0
      ∷ issuing 4 (request 1 0 (Faa 2)) 1
      ∷ issuing 4 (request 2 0 (Faa 3)) 1
      ∷ issuing 4 (request 3 0 (Faa 4)) 1
      ∷ [];
  meetings = meeting 5 0 2 0 3 1 true ∷ meeting 6 1 0 0 0 2 true ∷ [];
  acts =
      act 7 0 (request 3 4 Load) (Value 0) 0
      ∷ act 7 2 (request 1 2 Load) (Value 0) 0
      ∷ act 7 3 (request 2 3 Load) (Value 0) 0
      ∷ act 8 0 (request 0 0 (Faa 4)) (Value 0) 4
      ∷ act 9 0 (request 3 0 (Faa 6)) (Value 4) 10
      ∷ [];
  deliveries =
      got 10 1 2 (Value 0)
      ∷ got 10 2 3 (Value 0)
      ∷ got 10 3 4 (Value 0)
      ∷ got 11 0 0 (Value 0)
      ∷ got 12 1 0 (Value 8)
      ∷ got 12 2 0 (Value 1)
      ∷ got 12 3 0 (Value 4)
      ∷ [];
  quiet = 12 ∷ [];
  cells = (0, 10) ∷ [];
  stands =
      stand Halted 5 ((5, 1) ∷ [])
      ∷ stand Halted 5 ((1, 1) ∷ (5, 2) ∷ (7, 8) ∷ [])
      ∷ stand Halted 5 ((1, 2) ∷ (5, 3) ∷ (7, 1) ∷ [])
      ∷ stand Halted 5 ((1, 3) ∷ (5, 4) ∷ (7, 4) ∷ [])
      ∷ [];
}
unfolding after start cycle reply_phase memory_phase request_phase processor_phase arriving_reply arriving_request places
marked_once = refl

-- processing element p loads cell p, and then cell 0
abbrev two_loads : List Instr
two_loads = instr.Number 1 ∷ instr.Load 13 1 ∷ instr.Load 8 0 ∷ instr.Halt ∷ []

-- the reply to 0 for cell 0 passes the record of 2 for cell 0
identity_not_cell_after_5 : holdings (after two_stages two_loads 6) ≡
    waiting 0 2 (kept 3 0 give.Same 1 give.Same ∷ [])
    ∷ waiting 1 0 (kept 2 0 give.Same 3 give.Same ∷ [])
    ∷ entering 0 (request 2 0 Load)
    ∷ leaving 0 (message 0 0 (Value 0))
    ∷ leaving 1 (message 1 1 (Value 0))
    ∷ leaving 2 (message 2 2 (Value 0))
    ∷ leaving 3 (message 3 3 (Value 0))
    ∷ []
unfolding after start cycle reply_phase memory_phase request_phase processor_phase arriving_reply arriving_request places
identity_not_cell_after_5 = refl

identity_not_cell_after_6 : holdings (after two_stages two_loads 7) ≡
    waiting 0 2 (kept 3 0 give.Same 1 give.Same ∷ [])
    ∷ waiting 1 0 (kept 2 0 give.Same 3 give.Same ∷ [])
    ∷ leaving 0 (message 2 0 (Value 0))
    ∷ replying 1 0 (message 0 0 (Value 0) ∷ [])
    ∷ replying 1 1 (message 1 1 (Value 0) ∷ [])
    ∷ replying 1 2 (message 2 2 (Value 0) ∷ [])
    ∷ replying 1 3 (message 3 3 (Value 0) ∷ [])
    ∷ []
unfolding after start cycle reply_phase memory_phase request_phase processor_phase arriving_reply arriving_request places
identity_not_cell_after_6 = refl

identity_not_cell : summary two_stages two_loads 16 ≡ record {
  issues =
      issuing 1 (request 0 0 Load) 0
      ∷ issuing 1 (request 1 1 Load) 0
      ∷ issuing 1 (request 2 2 Load) 0
      ∷ issuing 1 (request 3 3 Load) 0
      ∷ issuing 2 (request 1 0 Load) 1
      ∷ issuing 2 (request 2 0 Load) 1
      ∷ issuing 2 (request 3 0 Load) 1
      ∷ issuing 8 (request 0 0 Load) 1
      ∷ [];
  meetings = meeting 3 0 2 0 3 1 true ∷ meeting 4 1 0 0 2 3 true ∷ [];
  acts =
      act 5 0 (request 0 0 Load) (Value 0) 0
      ∷ act 5 1 (request 1 1 Load) (Value 0) 0
      ∷ act 5 2 (request 2 2 Load) (Value 0) 0
      ∷ act 5 3 (request 3 3 Load) (Value 0) 0
      ∷ act 6 0 (request 2 0 Load) (Value 0) 0
      ∷ act 12 0 (request 0 0 Load) (Value 0) 0
      ∷ [];
  deliveries =
      got 8 0 0 (Value 0)
      ∷ got 8 1 1 (Value 0)
      ∷ got 8 2 2 (Value 0)
      ∷ got 8 3 3 (Value 0)
      ∷ got 9 1 0 (Value 0)
      ∷ got 9 2 0 (Value 0)
      ∷ got 9 3 0 (Value 0)
      ∷ got 15 0 0 (Value 0)
      ∷ [];
  quiet = 15 ∷ [];
  cells = [];
  stands =
      stand Halted 3 []
      ∷ stand Halted 3 ((1, 1) ∷ [])
      ∷ stand Halted 3 ((1, 2) ∷ [])
      ∷ stand Halted 3 ((1, 3) ∷ [])
      ∷ [];
}
unfolding after start cycle reply_phase memory_phase request_phase processor_phase arriving_reply arriving_request places
identity_not_cell = refl

abbrev five_request_places : Settings
five_request_places = settings 2 5 8 1 3 []

-- each stores 0 into cell 0, adds 25 to cell 25, and stores 0 into cell 5
abbrev three_cells : List Instr
three_cells = instr.Set 5 5 ∷ instr.Set 8 25 ∷ instr.Store 7 6 ∷ instr.Faa 13 8 8 ∷ instr.Store 5 6 ∷ instr.Halt ∷ []

-- of two entries that could combine, the front one does
frontmost_after_7 : holdings (after five_request_places three_cells 8) ≡
    queued 0 0 (single 0 5 (Store 0) ∷ [])
    ∷ queued 0 2 (single 1 5 (Store 0) ∷ [])
    ∷ queued 1 1 (single 3 25 (Faa 25) ∷ single 3 5 (Store 0) ∷ single 2 5 (Store 0) ∷ [])
    ∷ waiting 0 0 (kept 2 0 give.Ack 0 give.Ack ∷ [])
    ∷ waiting 0 2 (kept 3 0 give.Ack 1 give.Ack ∷ [])
    ∷ waiting 1 1 (kept 1 25 give.Same 0 (give.Plus 25) ∷ [])
    ∷ entering 1 (request 2 25 (Faa 25))
    ∷ leaving 1 (message 1 25 (Value 0))
    ∷ replying 1 0 (message 2 0 Ack ∷ [])
    ∷ replying 1 1 (message 3 0 Ack ∷ [])
    ∷ []
unfolding after start cycle reply_phase memory_phase request_phase processor_phase arriving_reply arriving_request places
frontmost_after_7 = refl

frontmost_after_8 : holdings (after five_request_places three_cells 9) ≡
    queued 1 1 (marked 3 5 (Store 0) ∷ single 2 5 (Store 0) ∷ single 1 5 (Store 0) ∷ [])
    ∷ waiting 1 1 (kept 3 5 give.Ack 0 give.Ack ∷ [])
    ∷ entering 1 (request 3 25 (Faa 25))
    ∷ leaving 1 (message 2 25 (Value 50))
    ∷ replying 0 0 (message 0 0 Ack ∷ [])
    ∷ replying 0 1 (message 2 0 Ack ∷ [])
    ∷ replying 0 2 (message 1 0 Ack ∷ [])
    ∷ replying 0 3 (message 3 0 Ack ∷ [])
    ∷ replying 1 0 (message 0 25 (Value 25) ∷ [])
    ∷ replying 1 1 (message 1 25 (Value 0) ∷ [])
    ∷ []
unfolding after start cycle reply_phase memory_phase request_phase processor_phase arriving_reply arriving_request places
frontmost_after_8 = refl

frontmost : summary five_request_places three_cells 16 ≡ record {
  issues =
      issuing 2 (request 0 0 (Store 0)) 0
      ∷ issuing 2 (request 1 0 (Store 0)) 0
      ∷ issuing 2 (request 2 0 (Store 0)) 0
      ∷ issuing 2 (request 3 0 (Store 0)) 0
      ∷ issuing 3 (request 0 25 (Faa 25)) 1
      ∷ issuing 3 (request 1 25 (Faa 25)) 1
      ∷ issuing 3 (request 2 25 (Faa 25)) 1
      ∷ issuing 3 (request 3 25 (Faa 25)) 1
      ∷ issuing 4 (request 0 5 (Store 0)) 2
      ∷ issuing 4 (request 1 5 (Store 0)) 2
      ∷ issuing 4 (request 2 5 (Store 0)) 2
      ∷ issuing 4 (request 3 5 (Store 0)) 2
      ∷ [];
  meetings =
      meeting 3 0 0 0 2 0 true
      ∷ meeting 3 0 2 0 3 1 true
      ∷ meeting 4 1 0 0 2 3 true
      ∷ meeting 5 1 1 25 1 0 true
      ∷ meeting 8 1 1 5 3 0 true
      ∷ [];
  acts =
      act 6 0 (request 2 0 (Store 0)) Ack 0
      ∷ act 7 1 (request 1 25 (Faa 50)) (Value 0) 50
      ∷ act 8 1 (request 2 25 (Faa 25)) (Value 50) 75
      ∷ act 9 1 (request 3 25 (Faa 25)) (Value 75) 100
      ∷ act 10 1 (request 3 5 (Store 0)) Ack 0
      ∷ act 11 1 (request 2 5 (Store 0)) Ack 0
      ∷ act 12 1 (request 1 5 (Store 0)) Ack 0
      ∷ [];
  deliveries =
      got 9 0 0 Ack
      ∷ got 9 1 0 Ack
      ∷ got 9 2 0 Ack
      ∷ got 9 3 0 Ack
      ∷ got 10 0 25 (Value 25)
      ∷ got 10 1 25 (Value 0)
      ∷ got 11 2 25 (Value 50)
      ∷ got 12 3 25 (Value 75)
      ∷ got 13 0 5 Ack
      ∷ got 13 3 5 Ack
      ∷ got 14 2 5 Ack
      ∷ got 15 1 5 Ack
      ∷ [];
  quiet = 15 ∷ [];
  cells = (25, 100) ∷ [];
  stands =
      stand Halted 5 ((5, 5) ∷ (8, 25) ∷ (13, 25) ∷ [])
      ∷ stand Halted 5 ((5, 5) ∷ (8, 25) ∷ [])
      ∷ stand Halted 5 ((5, 5) ∷ (8, 25) ∷ (13, 50) ∷ [])
      ∷ stand Halted 5 ((5, 5) ∷ (8, 25) ∷ (13, 75) ∷ [])
      ∷ [];
}
unfolding after start cycle reply_phase memory_phase request_phase processor_phase arriving_reply arriving_request places
frontmost = refl
