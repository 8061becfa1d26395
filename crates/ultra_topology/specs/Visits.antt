-- visits of units in the order of their numbers, and walks over a set that loses some
use Rattle.std.specs.Prelude.{◌≡◌, ℕ, zero, suc, ◌+◌, ◌-◌, ◌<◌, Bool, true, false, List, nat_lt}
use Rattle.std.specs.Int.{bit_at}
use Rattle.ultra_topology.specs.{Set.{AreBits, has_bit, has_unit, IsFirstOf, word_end}, declared.{pass.Walk.Walk, TheConstants.MOST_UNITS}}

-- what is left after visits of the units below a number
unfoldable pub after_units : {T : Type 0} → (ℕ → T → T) → ℕ → T → T
after_units f zero t = t
after_units f (suc n) t = f n (after_units f n t)

-- ---- a walk
pub record IsWalk (w : Walk) : Type 0 where
  pub small : w.unit < MOST_UNITS
  pub within : (i : ℕ) → bit_at w.rest i ≡ 1 → w.unit + 1 + i < word_end w.unit

-- whether it still comes to unit k: in its word as it keeps it, and behind that as it is in the set
abbrev pub comes_to : Walk → List ℕ → ℕ → Bool
comes_to w words k = elim (nat_lt k (word_end w.unit)) [
  | true ↦ has_bit w.rest (k - (w.unit + 1))
  | false ↦ has_unit words k
]

-- it has come to the first of these units from number `from` on, and keeps those behind
pub record HasCome (are : ℕ → Bool) (from : ℕ) (w : Walk) : Type 0 where
  pub first : IsFirstOf are from w.unit
  pub rest : AreBits are (w.unit + 1) (word_end w.unit) w.rest
