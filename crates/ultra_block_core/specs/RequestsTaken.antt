-- the half of a cycle in which requests come to switches and modules
use Rattle.std.specs.Prelude.{◌≡◌, ℕ, ◌/◌, ◌^◌, ◌<◌, ◌++◌, length, Option, Some, None, slice_set}
use Rattle.ultra_block_core.specs.Prelude.{ForSome, Request, Ports, CanTakeRequests, after_requests, combinations_of, module_with, Unit as UnitName, of_unit, unit_of, request_links, memory_link, on_link, on_both, without_both}
use Rattle.ultra_topology.specs.declared.unit.Unit.TheVariants as unit
use Rattle.ultra_block_core.specs.BlockState.{BlockState, HasEventRoom, own_switch, own_module}

-- ---- at switch k of stage s, which has number n
abbrev pub requests_at_switch : ℕ → ℕ → BlockState → Ports (Option Request)
requests_at_switch s k b = on_both b.requests (request_links b.stages s k)

abbrev pub switch_takes_requests : ℕ → ℕ → ℕ → BlockState → BlockState
switch_takes_requests n s k b = elim (own_switch b.switches n) [
  | None ↦ b
  | Some w ↦ record b {
    switches =
        slice_set b.switches n
        (Some (after_requests b.stages s b.done w (requests_at_switch s k b)));
    requests = without_both b.requests (request_links b.stages s k);
    events = b.events ++ combinations_of b.stages s k b.done w (requests_at_switch s k b);
  }
]

-- ---- at module m
abbrev pub request_at_module : ℕ → BlockState → Option Request
request_at_module m b = on_link b.requests (memory_link b.stages m)

abbrev pub module_takes_request : ℕ → BlockState → BlockState
module_takes_request m b = elim (own_module b.modules m) [
  | None ↦ b
  | Some memory_module ↦ record b {
    modules =
        slice_set b.modules m
        (Some (module_with (2 ^ b.stages) memory_module (request_at_module m b)));
    requests = slice_set b.requests (memory_link b.stages m) None;
  }
]

-- ---- at the unit with number n
abbrev pub takes_requests : ℕ → BlockState → BlockState
takes_requests n b =
    of_unit b.stages (λ s k. switch_takes_requests n s k b) (λ m. module_takes_request m b)
    (λ p. b) b n

-- where a request has come to a switch, the queue that it goes to has room for two
abbrev pub SwitchCanTakeRequests : ℕ → ℕ → ℕ → BlockState → Type 0
SwitchCanTakeRequests n s k b =
    ForSome (own_switch b.switches n) (λ w. CanTakeRequests b.stages s w (requests_at_switch s k b))

-- where one has come to a module, its cell is one of the module's, and the register is empty
abbrev pub ModuleCanTakeRequest : ℕ → BlockState → Type 0
ModuleCanTakeRequest m b =
    ForSome (own_module b.modules m)
    (λ memory_module. ForSome (request_at_module m b)
    (λ r. (r.cell / 2 ^ b.stages < length memory_module.cells) × (memory_module.inp ≡ None)))

abbrev pub UnitCanTakeRequests : ℕ → BlockState → UnitName → Type 0
UnitCanTakeRequests n b (unit.Switch s k) = SwitchCanTakeRequests n s k b
UnitCanTakeRequests n b (unit.Module m) = ModuleCanTakeRequest m b
UnitCanTakeRequests n b other = Unit {0}

-- the conditions of the unit with number n
pub record CanTakeRequestsAt (n : ℕ) (b : BlockState) : Type 0 where
  pub unit : UnitCanTakeRequests n b (unit_of b.stages n)
  pub room : HasEventRoom n b
