-- the half of a cycle in which processing elements make a step of the program
use Rattle.std.specs.Prelude.{ℕ, ◌+◌, ◌-◌, ◌^◌, ◌<◌, List, [], ◌∷◌, ◌++◌, Some, None, slice_set}
use Rattle.ultra_block_core.specs.Prelude.{ForSome, Instr, present, issue_event, stop_of, element_of, executed, step_at, Unit as UnitName, of_unit, unit_of}
use Rattle.ultra_topology.specs.declared.unit.Unit.TheVariants as unit
use Rattle.ultra_block_core.specs.BlockState.{BlockState, HasEventRoom, HasStopRoom, own_element}

module _ (program : List Instr) where
  -- ---- processing element p
  abbrev pub element_executes : ℕ → BlockState → BlockState
  element_executes p b = elim (own_element b.elements p) [
    | None ↦ b
    | Some e ↦ record b {
      elements = slice_set b.elements p (Some (executed program e));
      events = b.events ++ present (issue_event (element_of e) (step_at program e).sent ∷ []);
      stops = b.stops ++ present (stop_of p (step_at program e).was ∷ []);
    }
  ]

  -- ---- the unit with number n
  abbrev pub executes : ℕ → BlockState → BlockState
  executes n b =
      of_unit b.stages (λ s k. b) (λ m. b) (λ p. element_executes p b) b n

-- by the block's own program
abbrev pub executes_own : ℕ → BlockState → BlockState
executes_own n b = executes b.program n b

-- a processing element has issued few requests so far
abbrev pub ElementCanExecute : ℕ → BlockState → Type 0
ElementCanExecute p b = ForSome (own_element b.elements p) (λ e. e.issued < 2 ^ 32 - 1)

abbrev pub UnitCanExecute : BlockState → UnitName → Type 0
UnitCanExecute b (unit.Element p) = ElementCanExecute p b
UnitCanExecute b other = Unit {0}

-- the conditions of the unit with number n
pub record CanExecuteAt (n : ℕ) (b : BlockState) : Type 0 where
  pub unit : UnitCanExecute b (unit_of b.stages n)
  pub event_room : HasEventRoom n b
  pub stop_room : HasStopRoom n b

-- one cycle more is done
abbrev pub counted : BlockState → BlockState
counted b = record b { done = b.done + 1 }
