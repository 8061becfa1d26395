-- a cycle in six halves is one cycle of the definition
use Rattle.std.specs.Prelude.{ℕ, ◌+◌, ◌-◌, ◌^◌, ◌<◌, List, ◌++◌, ◌≡◌, ◌/◌, length, None}
use Rattle.ultra_cycle_law.specs.{Prelude.{CanDeliver, cycle, switch_count}, Course.{Event, Instr, Stop}, Whole.{IsFrameOf, Settings, Machine}}
use Rattle.std.specs.Option.{ForSome}
use Rattle.ultra_unit_steps.specs.Switches as switch
use Rattle.ultra_cycle_law.specs.Frame.{Frame, AreClosedToReplies, AreClosedToRequests, Ports, AreAlike, IsClear}
use Rattle.ultra_cycle_law.specs.Course as half

-- ---- the conditions of the halves that take messages, and of the one in which processing elements
-- make a step

module _ (d : ℕ) (f : Frame) where
  -- where replies come to a switch there is room; where one comes to a processing element, its
  -- cell is open, and its request has left
  pub record CanTakeReplies : Type 0 where
    pub switches : (n : ℕ) → n < switch_count d
        → switch.CanTakeReplies (f.switch n) (half.replies_to d f n)
    pub elements : (p : ℕ) → p < 2 ^ d
        → ForSome (half.reply_to d f p) (λ r. CanDeliver r.cell (f.element p).interface.interface)

  -- where requests come to a switch there is room; one that comes to a module is for one of its
  -- cells, and finds its register empty
  pub record CanTakeRequests : Type 0 where
    pub switches : (n : ℕ) → n < switch_count d
        → switch.CanTakeRequests d (n / 2 ^ (d - 1)) (f.switch n) (half.requests_to d f n)
    pub modules : (m : ℕ) → m < 2 ^ d
        → ForSome (half.request_to d f m) (λ r.
        (r.cell / 2 ^ d < length (f.memory_module m).cells) × ((f.memory_module m).inp ≡ None))

  -- each processing element has issued few enough requests to count one more
  pub record CanExecute : Type 0 where
    pub counted : (p : ℕ) → p < 2 ^ d → (f.element p).issued < 2 ^ 32 - 1

-- ---- a cycle

-- cycle n of a machine of d stages: its frames, before it and after each half. It also has what is
-- noted to have no room, at the start and after the memory has served. Each frame is the one before
-- it after a half
pub record HalvesOfCycle (d n : ℕ) (program : List Instr) : Type 0 where
  pub start : Frame
  pub no_reply_room : List ℕ
  pub replies_sent : Frame
  pub replies_taken : Frame
  pub memory_served : Frame
  pub no_request_room : Ports (List ℕ)
  pub requests_sent : Frame
  pub requests_taken : Frame
  pub steps_made : Frame
  pub first_noted : AreClosedToReplies d start no_reply_room
  pub sends_replies : AreAlike d replies_sent (half.sends_replies d no_reply_room start)
  pub takes_replies : AreAlike d replies_taken (half.takes_replies d replies_sent)
  pub serves : AreAlike d memory_served (half.serves d replies_taken)
  pub then_noted : AreClosedToRequests d memory_served no_request_room
  pub sends_requests :
      AreAlike d requests_sent (half.sends_requests d no_request_room memory_served)
  pub takes_requests : AreAlike d requests_taken (half.takes_requests d n requests_sent)
  pub executes : AreAlike d steps_made (half.executes d program requests_taken)

-- the conditions of each half are met, the six make up a cycle of the definition, and no message is
-- left on a link
pub record IsCycled (c : Settings) (n : ℕ) (program : List Instr)
    (x : HalvesOfCycle c.stages n program) (m : Machine) : Type 0 where
  pub replies : CanTakeReplies c.stages x.replies_sent
  pub requests : CanTakeRequests c.stages x.requests_sent
  pub steps : n < 2 ^ 32 - 1 → CanExecute c.stages x.requests_taken
  -- what happens: deliveries by processing element, servings by module, combinations by stage,
  -- position and arrival, issues by processing element
  pub machine :
      IsFrameOf c (n + 1) x.steps_made
      (half.delivery_events c.stages x.replies_sent
      ++ half.servings c.stages x.replies_taken
      ++ half.combinations c.stages n x.requests_sent
      ++ half.issues c.stages program x.requests_taken)
      (half.stops c.stages program x.requests_taken) (cycle c program m)
  pub clear : IsClear c.stages x.steps_made

abbrev pub CycleLaw : Type 0
CycleLaw =
    (c : Settings) (n : ℕ) (program : List Instr) (x : HalvesOfCycle c.stages n program)
    (events : List Event) (stops : List Stop) (m : Machine)
    → IsFrameOf c n x.start events stops m → IsCycled c n program x m
