-- which cells and processing elements a sum can name, and how large it can be; this project's
-- profile
use Rattle.std.specs.Prelude.{ℕ, ◌+◌, ◌-◌, ◌*◌, ◌^◌, ◌<◌, ◌≤◌, List, All}
use Rattle.std.specs.List.{sum_by}
use Rattle.ultra_condition.specs.Condition.{Condition, compare, negate, both, either}
use Rattle.ultra_condition.specs.declared.value.{Measure.Measure, Term.Term, Value.Value}
use Rattle.ultra_condition.specs.declared.value.Measure.TheVariants.{Total, Least, Greatest}
use Rattle.ultra_condition.specs.declared.value.Value.TheVariants.{One, Cells, Register, Elements}

-- the greatest word
abbrev pub most_word : ℕ
most_word = 2 ^ 32 - 1

abbrev pub most_measure : Measure → ℕ → ℕ
most_measure Total n = n * most_word
most_measure Least n = most_word
most_measure Greatest n = most_word

-- the greatest value, with the greatest word in each cell and register, and with this many
-- processing elements
module _ (elements : ℕ) where
  abbrev pub most_value : Value → ℕ
  most_value One = 1
  most_value (Cells m a b) = most_measure m (b + 1 - a)
  most_value (Register p r) = most_word
  most_value (Elements g) = elements

  abbrev pub most_term : Term → ℕ
  most_term t = t.factor * most_value t.value

  abbrev pub most_sum : List Term → ℕ
  most_sum ts = sum_by most_term ts

-- with this many cells and processing elements
module _ (cells elements : ℕ) where
  -- what the value names is there
  abbrev pub IsThere : Value → Type 0
  IsThere One = Unit {0}
  IsThere (Cells m a b) = (a ≤ b) × (b < cells)
  IsThere (Register p r) = p < elements
  IsThere (Elements g) = Unit {0}

  -- and the sum fits 64 bits
  pub record IsWithinLimits (ts : List Term) : Type 0 where
    pub there : All (λ (t : Term). IsThere t.value) ts
    pub small : most_sum elements ts < 2 ^ 64

  abbrev pub AreWithinLimits : Condition → Type 0
  AreWithinLimits (compare a s b) = IsWithinLimits a × IsWithinLimits b
  AreWithinLimits (negate c) = AreWithinLimits c
  AreWithinLimits (both c d) = AreWithinLimits c × AreWithinLimits d
  AreWithinLimits (either c d) = AreWithinLimits c × AreWithinLimits d
