-- which unit is in a block, and what leads from it to units elsewhere
use Rattle.std.specs.Prelude.{◌≡◌, ℕ, ◌≤◌, ◌<◌, Bool, false, List, Option, is_some}
use Rattle.ultra_block_core.specs.{Prelude.{Ports, unit_of}, BlockState.{BlockState, own_switch, own_module, own_element}}
use Rattle.ultra_topology.specs.declared.unit.Unit.TheVariants as unit
pub use Rattle.ultra_topology.specs.Inlets.{reply_inlets, request_inlets, taken_by_turns, put_on_both, AreEmpty}
use Rattle.ultra_topology.specs.declared.TheConstants.{MOST_UNITS}

-- whether the unit with number n is in a block
abbrev pub is_in_block : ℕ → BlockState → Bool
is_in_block n b = elim (unit_of b.stages n) [
  | unit.Switch s k ↦ is_some (own_switch b.switches n)
  | unit.Module m ↦ is_some (own_module b.modules m)
  | unit.Element p ↦ is_some (own_element b.elements p)
  | unit.Nothing ↦ false
]

-- `inlets` are those of the unit with a number
module _ {M : Type 0} (table : List (Option M)) (inlets : ℕ → Option (Ports ℕ))
    (b : BlockState) where
  -- nothing leads from the block to a unit that is elsewhere and has a number from `from` on,
  -- below `to`
  abbrev pub AllStayWithin : ℕ → ℕ → Type 0
  AllStayWithin from to =
      (n : ℕ) → from ≤ n → n < to → is_in_block n b ≡ false → AreEmpty table (inlets n)

  -- k is at least `from` and below MOST_UNITS. Nothing leads from the block to a unit elsewhere
  -- whose number is at least `from` and below k
  pub record IsNextAway (from k : ℕ) : Type 0 where
    pub after : from ≤ k
    pub within : k < MOST_UNITS
    pub between : AllStayWithin from k
