-- a block: some of the units of a machine, and the links
use Rattle.std.specs.Prelude.{◌≡◌, ℕ, ◌+◌, ◌*◌, ◌^◌, ◌<◌, ◌≤◌, List, length, false, IsTrue, Option, None, slice_index_or}
use Rattle.ultra_block_core.specs.Prelude.{ForSome, Request, ReplyMessage, Switch, ModuleState, Instr, element_number, has_unit, is_at_rest, ProcessingElement}
use Rattle.ultra_msg.specs.declared.Event.{Event}
use Rattle.ultra_model.specs.declared.Stop.{Stop}
use Rattle.ultra_topology.specs.declared.TheConstants.{MOST_UNITS}

-- the program that its processing elements run, the units in it, by their numbers, what is on each
-- link, and what has happened in the cycle
pub record BlockState : Type 0 where
  pub stages : ℕ
  pub done : ℕ
  pub program : List Instr
  pub switches : List (Option Switch)
  pub modules : List (Option ModuleState)
  pub elements : List (Option ProcessingElement)
  pub replies : List (Option ReplyMessage)
  pub requests : List (Option Request)
  pub events : List Event
  pub stops : List Stop

abbrev pub own_switch : List (Option Switch) → ℕ → Option Switch
own_switch ws n = slice_index_or ws n None

abbrev pub own_module : List (Option ModuleState) → ℕ → Option ModuleState
own_module bs m = slice_index_or bs m None

abbrev pub own_element : List (Option ProcessingElement) → ℕ → Option ProcessingElement
own_element es p = slice_index_or es p None

-- the processing elements outside a set are at rest: a step of the program leaves each as it is
abbrev pub AreOthersAtRest : ℕ → List Instr → List ℕ → List (Option ProcessingElement) → Type 0
AreOthersAtRest d program awake es =
    (p : ℕ) → p < 2 ^ d → has_unit awake (element_number d p) ≡ false
    → ForSome (own_element es p) (λ e. IsTrue (is_at_rest program e))

-- how many events there is memory for, and how many stops
abbrev pub most_events : ℕ
most_events = 8 * MOST_UNITS

abbrev pub most_stops : ℕ
most_stops = MOST_UNITS

-- there is memory for the events of the units from number n on: each has at most two in a half
abbrev pub HasEventRoom : ℕ → BlockState → Type 0
HasEventRoom n b = length b.events + 2 * MOST_UNITS ≤ most_events + 2 * n

-- and for their stops: each has at most one
abbrev pub HasStopRoom : ℕ → BlockState → Type 0
HasStopRoom n b = length b.stops + MOST_UNITS ≤ most_stops + n
