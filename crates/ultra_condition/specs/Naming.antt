-- what a condition depends on; this project's profile
use Rattle.std.specs.Prelude.{◌≡◌, ℕ, Bool, true, false, ◌&&◌, ◌||◌, ◌==◌, List, slice_index, length}
use Rattle.std.specs.List.{list_any, list_all}
use Rattle.ultra_para.specs.Para.{Para, core_at}
use Rattle.ultra_condition.specs.Condition.{Condition, compare, negate, both, either}
use Rattle.ultra_condition.specs.declared.value.{Term.Term, Value.Value}
use Rattle.ultra_condition.specs.declared.value.Value.TheVariants.{One, Cells, Register, Elements}
use Rattle.ultra_condition.specs.Meaning.{holds, sum_in}

-- ---- registers
module _ (p r : ℕ) where
  abbrev pub value_names : Value → Bool
  value_names One = false
  value_names (Cells m a b) = false
  value_names (Register q s) = (q == p) && (s == r)
  value_names (Elements g) = false

  abbrev pub sum_names : List Term → Bool
  sum_names ts = list_any (λ (t : Term). value_names t.value) ts

  -- whether the condition names register r of processing element p
  abbrev pub names_register : Condition → Bool
  names_register (compare a s b) = sum_names a || sum_names b
  names_register (negate c) = names_register c
  names_register (both c d) = names_register c || names_register d
  names_register (either c d) = names_register c || names_register d

-- the states agree on the cells, on each place and each activity, and on these registers
pub record AgreeOn (named : ℕ → ℕ → Bool) (v w : Para) : Type 0 where
  pub cells : v.cells ≡ w.cells
  pub elements : length v.cores ≡ length w.cores
  pub places : (p : ℕ) → (core_at v p).pc ≡ (core_at w p).pc
  pub activities : (p : ℕ) → (core_at v p).activity ≡ (core_at w p).activity
  pub registers : (p r : ℕ) → named p r ≡ true →
      slice_index (core_at v p).registers r ≡ slice_index (core_at w p).registers r

-- then each sum has the same value in both, and each condition holds in both or in neither
abbrev pub SumAgreementLaw : Type 0
SumAgreementLaw =
    (ts : List Term) (v w : Para) → AgreeOn (λ p r. sum_names p r ts) v w →
    sum_in v ts ≡ sum_in w ts

abbrev pub AgreementLaw : Type 0
AgreementLaw =
    (c : Condition) (v w : Para) → AgreeOn (λ p r. names_register p r c) v w →
    holds c v ≡ holds c w

-- ---- cells alone
abbrev pub value_is_of_cells : Value → Bool
value_is_of_cells One = true
value_is_of_cells (Cells m a b) = true
value_is_of_cells (Register p r) = false
value_is_of_cells (Elements g) = false

abbrev pub sum_is_of_cells : List Term → Bool
sum_is_of_cells ts = list_all (λ (t : Term). value_is_of_cells t.value) ts

-- whether the condition speaks of cells alone
abbrev pub is_of_cells : Condition → Bool
is_of_cells (compare a s b) = sum_is_of_cells a && sum_is_of_cells b
is_of_cells (negate c) = is_of_cells c
is_of_cells (both c d) = is_of_cells c && is_of_cells d
is_of_cells (either c d) = is_of_cells c && is_of_cells d

-- such a condition holds in both of two states with the same cells, or in neither
abbrev pub CellsLaw : Type 0
CellsLaw =
    (c : Condition) (v w : Para) → is_of_cells c ≡ true → v.cells ≡ w.cells →
    holds c v ≡ holds c w
