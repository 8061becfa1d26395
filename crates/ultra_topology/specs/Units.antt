-- which unit of a machine of d stages has a number
use Rattle.std.specs.Prelude.{◌≡◌, ℕ, ◌+◌, ◌-◌, ◌/◌, ◌%◌, ◌^◌, ◌<◌, ◌≤◌, true, false, nat_lt}
use Rattle.ultra_topology.specs.{Numbers.{switch_count, switch_number, module_number, element_number, unit_count}, declared.unit.Unit.{Unit, TheVariants.{Switch, Module, Element, Nothing}}}

-- the stage of the switch with a number, and its index there
abbrev pub stage_of : ℕ → ℕ → ℕ
stage_of d n = n / 2 ^ (d - 1)

abbrev pub index_of : ℕ → ℕ → ℕ
index_of d n = n % 2 ^ (d - 1)

abbrev pub unit_of : ℕ → ℕ → Unit
unit_of d n = elim (nat_lt n (switch_count d)) [
  | true ↦ Switch (stage_of d n) (index_of d n)
  | false ↦ elim (nat_lt n (switch_count d + 2 ^ d)) [
    | true ↦ Module (n - switch_count d)
    | false ↦ elim (nat_lt n (unit_count d)) [
      | true ↦ Element (n - switch_count d - 2 ^ d)
      | false ↦ Nothing
    ]
  ]
]

-- number n is that of switch k of stage s
pub record IsSwitch (d n s k : ℕ) : Type 0 where
  pub within : n < switch_count d
  pub stage : s ≡ stage_of d n
  pub index : k ≡ index_of d n
  pub stage_small : s < d
  pub index_small : k < 2 ^ (d - 1)
  pub number : n ≡ switch_number d s k

-- of module m
pub record IsModule (d n m : ℕ) : Type 0 where
  pub small : m < 2 ^ d
  pub number : n ≡ module_number d m

-- of processing element p
pub record IsElement (d n p : ℕ) : Type 0 where
  pub small : p < 2 ^ d
  pub number : n ≡ element_number d p

-- number n is that of the unit
abbrev pub IsUnit : ℕ → ℕ → Unit → Type 0
IsUnit d n (Switch s k) = IsSwitch d n s k
IsUnit d n (Module m) = IsModule d n m
IsUnit d n (Element p) = IsElement d n p
IsUnit d n Nothing = unit_count d ≤ n

-- what there is at number n: by the kind of its unit, or x where there is none
abbrev pub of_unit : {X : Type 0} → ℕ → (ℕ → ℕ → X) → (ℕ → X) → (ℕ → X) → X → ℕ → X
of_unit d switch memory_module element x n = elim (unit_of d n) [
  | Switch s k ↦ switch s k
  | Module m ↦ memory_module m
  | Element p ↦ element p
  | Nothing ↦ x
]
