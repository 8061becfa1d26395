-- texts among the bytes of a buffer; this project's profile
use Rattle.std.specs.Prelude.{ℕ, ◌≡◌, ◌+◌, ◌/◌, ◌%◌, List, [], ◌∷◌, ◌++◌, length, take}

-- bytes were written at a position, behind what was before it; `behind` is the position behind them
pub record IsWritten (bytes : List ℕ) (at : ℕ) (old new : List ℕ) (behind : ℕ) : Type 0 where
  pub longer : behind ≡ at + length bytes
  pub text : take behind new ≡ take at old ++ bytes

-- the two decimal digits of a number below 100
abbrev pub two_digits : ℕ → List ℕ
two_digits n = (48 + n / 10) ∷ (48 + n % 10) ∷ []
