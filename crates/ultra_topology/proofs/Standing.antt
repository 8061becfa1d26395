-- The unit with a number is that of its kind.
use Rattle.std.proofs.Common.{◌≡◌, ℕ, ◌^◌, ◌<◌, arith}
use Rattle.ultra_topology.proofs.Common.{switch_count, module_number, element_number, unit_of, stage_of, index_of, IsUnit, IsSwitch}
use Rattle.ultra_topology.specs.declared.unit.Unit.TheVariants.{Switch, Module, Element}

pub is_switch : (d n : ℕ) → n < switch_count d → IsSwitch d n (stage_of d n) (index_of d n)
is_switch d n h = grind arith

pub unit_is : (d n : ℕ) → IsUnit d n (unit_of d n)
unit_is d n = grind (arith, is_switch)

-- ---- and the other way round
pub unit_of_switch : (d n : ℕ) → n < switch_count d → unit_of d n ≡ Switch (stage_of d n) (index_of d n)
unit_of_switch d n h = grind arith

pub unit_of_module : (d m : ℕ) → m < 2 ^ d → unit_of d (module_number d m) ≡ Module m
unit_of_module d m h = grind arith

pub unit_of_element : (d p : ℕ) → p < 2 ^ d → unit_of d (element_number d p) ≡ Element p
unit_of_element d p h = grind arith
