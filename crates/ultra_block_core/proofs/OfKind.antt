-- The unit with a number by its kind: whether it is in a block, and a block without it or with it.
use Rattle.std.proofs.Common.{◌≡◌, ℕ, sym, ◌^◌, ◌<◌, ◌≤◌, subst, arith, is_some}
use Rattle.ultra_block_core.proofs.Common.{switch_count, unit_count, module_number, element_number, Unit, unit_of, IsUnit, BlockState, own_switch, own_module, own_element, is_in_block, unit_is, unit_of_module}
use Rattle.ultra_topology.specs.declared.unit.Unit.TheVariants as unit

-- what holds of each switch, each module, each processing element, and of what is none of them
module _ (d : ℕ) (P : ℕ → Type 0) (switches : (n : ℕ) → n < switch_count d → P n) (modules : (m : ℕ) → m < 2 ^ d → P (module_number d m))
    (elements : (p : ℕ) → p < 2 ^ d → P (element_number d p)) (others : (n : ℕ) → unit_count d ≤ n → P n) where
  by_unit : (n : ℕ) (u : Unit) → IsUnit d n u → P n
  by_unit n (unit.Switch s k) is = switches n is.within
  by_unit n (unit.Module m) is = subst P (sym is.number) (modules m is.small)
  by_unit n (unit.Element p) is = subst P (sym is.number) (elements p is.small)
  by_unit n unit.Nothing is = others n is

  pub by_kind : (n : ℕ) → P n
  by_kind n = by_unit n (unit_of d n) (unit_is d n)

-- no unit has a number behind them all
pub unit_of_none : (d n : ℕ) → unit_count d ≤ n → unit_of d n ≡ unit.Nothing
unit_of_none d n past = grind arith

module _ (d : ℕ) (b : BlockState) (stages : b.stages ≡ d) where
  -- whether one is here
  pub switch_stands : (n : ℕ) → n < switch_count d → is_in_block n b ≡ is_some (own_switch b.switches n)
  switch_stands n h = grind arith

  pub module_stands : (m : ℕ) → m < 2 ^ d → is_in_block (module_number d m) b ≡ is_some (own_module b.modules m)
  module_stands m h = grind (arith, unit_of_module)

  pub element_stands : (p : ℕ) → p < 2 ^ d → is_in_block (element_number d p) b ≡ is_some (own_element b.elements p)
  element_stands p h = grind arith
