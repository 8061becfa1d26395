-- one cycle of the whole machine, as formulas over all parts at once; each phase reads the machine
-- as it is at the phase's start. The routes are the 1983 paper's Omega network; the phases, the
-- room rules and their order are this project's profile
use Rattle.std.specs.Prelude.{ℕ, suc, zero, ◌+◌, ◌-◌, ◌*◌, ◌/◌, ◌%◌, List, [], ◌∷◌, ◌++◌, Bool, true, false, ◌&&◌, ◌==◌, nat_le, length, Option, Some, None, slice_get}
use Rattle.std.specs.List.{filter}
use Rattle.ultra_msg.specs.{declared.{Request.Request, ReplyMessage.ReplyMessage, Event.{Event, TheVariants.{Delivered, Served, Combined, Issued}}}, Pair.pair_of}
use Rattle.ultra_route.specs.Route.{shuffled, unshuffled}
use Rattle.ultra_switch.specs.{declared.WaitRecord.WaitRecord, Arrive.{Lane, Combination, combine_within, arrive}, Queues.request_of, Split.{records_after, replies_of}}
use Rattle.ultra_mem.specs.{declared.Served.Served as Act, Serve.{ModuleState, serve, served}}
use Rattle.ultra_pni.specs.Interface.{target_of, closed}
use Rattle.ultra_isa.specs.{declared.{Instr.Instr, Step.Step}, Step.{StepResult, step_of, received}}
use Rattle.ultra_isa.specs.declared.Step.TheVariants as step
use Rattle.ultra_model.specs.{declared.Stop.Stop, Places.{places, table, after_leaving, present, joined}}
use Rattle.ultra_model.specs.Machine.{Settings, Machine, Element, size, last_stage, site, request_exit, reply_exit, lane_at, replies_at, module_at, element_at, start}

-- ---- what a phase does to one processing element, queue or module
abbrev pub delivery : Option ReplyMessage → Option Event
delivery None = None
delivery (Some r) = Some (Delivered r)

-- a reply is delivered to a processing element: its register is set, if it has one, and the cell is
-- no longer open
abbrev pub deliver : Element → Option ReplyMessage → Element
deliver e None = e
deliver e (Some r) = record e {
  core =
      record e.core {
        registers = received e.core.registers
            (target_of r.cell e.interface.opened) r.reply;
      };
  interface = record e.interface { opened = closed r.cell e.interface.opened };
}

abbrev pub without_reply : ModuleState → Option ReplyMessage → ModuleState
without_reply b None = b
without_reply b (Some r) = record b { out = None }

abbrev pub records_left : List WaitRecord → Option ReplyMessage → List WaitRecord
records_left ws None = ws
records_left ws (Some r) = records_after r ws

abbrev pub replies_made : List WaitRecord → Option ReplyMessage → List ReplyMessage
replies_made ws None = []
replies_made ws (Some r) = replies_of r ws

abbrev pub serving : ℕ → Option Act → Option Event
serving k None = None
serving k (Some a) = Some (Served k a.request a.reply a.now)

abbrev pub without_pending : Element → Option Request → Element
without_pending e o =
    record e { interface = record e.interface { pending = after_leaving o e.interface.pending } }

-- requests that arrive in order
abbrev pub arrive_all : ℕ → Lane → List Request → Lane
arrive_all wait_places l [] = l
arrive_all wait_places l (r ∷ rs) = arrive_all wait_places (arrive wait_places l r) rs

-- the combinations among them
abbrev pub combination : ℕ → ℕ → Request → Option Combination → List Event
combination s x r None = []
combination s x r (Some c) =
    Combined s x r.cell c.old.request.pe r.pe (pair_of c.old.request.op r.op).old_first ∷ []

abbrev pub combinations : ℕ → ℕ → ℕ → Lane → List Request → List Event
combinations wait_places s x l [] = []
combinations wait_places s x l (r ∷ rs) =
    combination s x r (combine_within wait_places l r)
    ++ combinations wait_places s x (arrive wait_places l r) rs

abbrev pub issues_after : ℕ → Option Request → ℕ
issues_after n None = n
issues_after n (Some r) = n + 1

abbrev pub stepped : Element → StepResult → Element
stepped e t =
    record { core = t.core; interface = t.interface; issued = issues_after e.issued t.sent }

abbrev pub issue_event : Element → Option Request → Option Event
issue_event e None = None
issue_event e (Some r) = Some (Issued r e.issued)

abbrev pub stop_of : ℕ → Step → Option Stop
stop_of p step.Done = None
stop_of p step.Issued = None
stop_of p step.Stalled = None
stop_of p step.Halted = None
stop_of p (step.Fault f) = Some record { pe = p; fault = f }

module _ (c : Settings) where
  -- ---- replies
  -- both queues toward the processing elements of switch k of stage s have at least 4 free places
  abbrev pub has_reply_room : Machine → ℕ → ℕ → Bool
  has_reply_room m s k =
      nat_le (length (replies_at m s (2 * k)) + 4) c.reply_places
      && nat_le (length (replies_at m s (2 * k + 1)) + 4) c.reply_places

  -- the reply that waits to come to memory-side position x of stage s
  abbrev pub reply_before : Machine → ℕ → ℕ → Option ReplyMessage
  reply_before m s x =
      elim (s == last_stage c) [
        | true ↦ (module_at m x).out
        | false ↦ slice_get (replies_at m (s + 1) (shuffled c.stages x)) 0
      ]

  -- it arrives where its switch has room
  unfoldable pub arriving_reply : Machine → ℕ → ℕ → Option ReplyMessage
  arriving_reply m s x =
      elim (has_reply_room m s (x / 2)) [ true ↦ reply_before m s x | false ↦ None ]

  -- the reply that leaves the queue at PE-side position y of stage s
  abbrev pub leaving_reply : Machine → ℕ → ℕ → Option ReplyMessage
  leaving_reply m s y =
      elim (s == 0) [
        | true ↦ slice_get (replies_at m s y) 0
        | false ↦ arriving_reply m (s - 1) (unshuffled c.stages y)
      ]

  -- what becomes of the reply that arrives at x, and what of it leaves by y
  abbrev pub replies_at_exit : Machine → ℕ → ℕ → ℕ → List ReplyMessage
  replies_at_exit m s x y =
      filter (λ r. reply_exit c s x r == y)
      (replies_made (lane_at m s x).records (arriving_reply m s x))

  abbrev pub next_replies : Machine → ℕ → ℕ → List ReplyMessage
  next_replies m s y =
      after_leaving (leaving_reply m s y) (replies_at m s y)
      ++ replies_at_exit m s (2 * (y / 2)) y
      ++ replies_at_exit m s (2 * (y / 2) + 1) y

  abbrev pub lane_after_split : Machine → ℕ → ℕ → Lane
  lane_after_split m s x =
      record {
        queue = (lane_at m s x).queue;
        records = records_left (lane_at m s x).records (arriving_reply m s x);
      }

  -- the reply that is delivered to processing element p
  abbrev pub delivered : Machine → ℕ → Option ReplyMessage
  delivered m p = slice_get (replies_at m 0 (shuffled c.stages p)) 0

  unfoldable pub reply_phase : Machine → Machine
  reply_phase m = record {
    lanes = table c.stages (size c) (λ s x. lane_after_split m s x);
    replies = table c.stages (size c) (λ s y. next_replies m s y);
    modules =
        places (size c) (λ k. without_reply (module_at m k) (arriving_reply m (last_stage c) k));
    elements = places (size c) (λ p. deliver (element_at m p) (delivered m p));
    cycles = m.cycles;
    events = present (places (size c) (λ p. delivery (delivered m p)));
    stops = [];
  }

  -- ---- memory
  unfoldable pub memory_phase : Machine → Machine
  memory_phase m = record m {
    modules = places (size c) (λ k. serve (module_at m k));
    events = m.events ++ present (places (size c) (λ k. serving k (served (module_at m k))));
  }

  -- ---- requests
  -- the queue toward memory at position x of stage s has at least 2 free places
  abbrev pub has_request_room : Machine → ℕ → ℕ → Bool
  has_request_room m s x = nat_le (length (lane_at m s x).queue + 2) c.request_places

  -- the request that waits to come to PE-side position y of stage s
  abbrev pub request_before : Machine → ℕ → ℕ → Option Request
  request_before m s y = elim (s == 0) [
    | true ↦ slice_get (element_at m (unshuffled c.stages y)).interface.pending 0
    | false ↦ request_of (slice_get (lane_at m (s - 1) (unshuffled c.stages y)).queue 0)
  ]

  -- it arrives where the queue that it goes to has room
  abbrev pub admitted : Machine → ℕ → ℕ → Option Request → Option Request
  admitted m s y None = None
  admitted m s y (Some r) =
      elim (has_request_room m s (request_exit c s y r)) [ true ↦ Some r | false ↦ None ]

  unfoldable pub arriving_request : Machine → ℕ → ℕ → Option Request
  arriving_request m s y = admitted m s y (request_before m s y)

  -- the request that goes into the register of module k: where that is empty, the head of the last
  -- queue
  abbrev pub entering : Machine → ℕ → Option Request
  entering m k =
      elim (module_at m k).inp [
        | None ↦ request_of (slice_get (lane_at m (last_stage c) k).queue 0)
        | Some r ↦ None
      ]

  abbrev pub with_request : ModuleState → Option Request → ModuleState
  with_request b None = b
  with_request b (Some r) = record b { inp = Some record { request = r; offset = r.cell / size c } }

  -- the request that leaves the queue at memory-side position x of stage s
  abbrev pub leaving_request : Machine → ℕ → ℕ → Option Request
  leaving_request m s x =
      elim (s == last_stage c) [
        | true ↦ entering m x
        | false ↦ arriving_request m (s + 1) (shuffled c.stages x)
      ]

  abbrev pub requests_by : ℕ → ℕ → ℕ → Option Request → List Request
  requests_by s y x None = []
  requests_by s y x (Some r) = elim (request_exit c s y r == x) [ true ↦ r ∷ [] | false ↦ [] ]

  -- the request that comes to PE-side position y, if it leaves by x
  abbrev pub arrivals_by : Machine → ℕ → ℕ → ℕ → List Request
  arrivals_by m s y x = requests_by s y x (arriving_request m s y)

  -- the arrivals at position x of stage s: port 0 first in even cycles, port 1 first in odd ones
  abbrev pub arrivals : Machine → ℕ → ℕ → List Request
  arrivals m s x = elim (m.cycles % 2 == 0) [
    | true ↦ arrivals_by m s (2 * (x / 2)) x ++ arrivals_by m s (2 * (x / 2) + 1) x
    | false ↦ arrivals_by m s (2 * (x / 2) + 1) x ++ arrivals_by m s (2 * (x / 2)) x
  ]

  abbrev pub lane_after_leaving : Machine → ℕ → ℕ → Lane
  lane_after_leaving m s x =
      record {
        queue = after_leaving (leaving_request m s x) (lane_at m s x).queue;
        records = (lane_at m s x).records;
      }

  abbrev pub next_lane : Machine → ℕ → ℕ → Lane
  next_lane m s x = arrive_all c.wait_places (lane_after_leaving m s x) (arrivals m s x)

  unfoldable pub request_phase : Machine → Machine
  request_phase m = record m {
    lanes = table c.stages (size c) (λ s x. next_lane m s x);
    modules = places (size c) (λ k. with_request (module_at m k) (entering m k));
    elements =
        places (size c)
        (λ p. without_pending (element_at m p) (arriving_request m 0 (shuffled c.stages p)));
    events =
        m.events
        ++ joined (joined
        (table c.stages (size c)
        (λ s x. combinations c.wait_places s x (lane_after_leaving m s x) (arrivals m s x))));
  }

  -- ---- processors
  abbrev pub step_at : List Instr → Machine → ℕ → StepResult
  step_at program m p =
      step_of (site c p) c.most_open program (element_at m p).core (element_at m p).interface

  unfoldable pub processor_phase : List Instr → Machine → Machine
  processor_phase program m = record m {
    elements = places (size c) (λ p. stepped (element_at m p) (step_at program m p));
    cycles = m.cycles + 1;
    events =
        m.events
        ++ present (places (size c) (λ p. issue_event (element_at m p) (step_at program m p).sent));
    stops = present (places (size c) (λ p. stop_of p (step_at program m p).was));
  }

  -- ---- cycles
  unfoldable pub cycle : List Instr → Machine → Machine
  cycle program m = processor_phase program (request_phase (memory_phase (reply_phase m)))

  -- the machine after n cycles
  unfoldable pub after : List Instr → ℕ → Machine
  after program zero = start c
  after program (suc n) = cycle program (after program n)
