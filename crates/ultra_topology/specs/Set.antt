-- a set of units as words of 64 bits
use Rattle.std.specs.Prelude.{◌≡◌, ◌≢◌, ℕ, ◌+◌, ◌*◌, ◌/◌, ◌%◌, ◌<◌, ◌≤◌, Bool, true, false, ◌&&◌, List, ◌==◌, nat_lt, slice_index}
use Rattle.std.specs.Int.{bit_at}
use Rattle.ultra_topology.specs.declared.TheConstants.{MOST_UNITS}

-- bit i of the word is set
abbrev pub has_bit : ℕ → ℕ → Bool
has_bit word i = bit_at word i == 1

-- the bits say which of the numbers from `from` on, below `to`, are those of these units
pub record AreBits (are : ℕ → Bool) (from to bits : ℕ) : Type 0 where
  pub each : (i : ℕ) → has_bit bits i ≡ (nat_lt (from + i) to && are (from + i))

-- the end of the word of unit n
abbrev pub word_end : ℕ → ℕ
word_end n = (n / 64 + 1) * 64

-- unit k is in the set: bit k % 64 of word k / 64 is set
unfoldable pub has_unit : List ℕ → ℕ → Bool
has_unit words k = has_bit (slice_index words (k / 64)) (k % 64)

-- none of these units from `from` on is below `to`
abbrev pub HasNoneWithin : (ℕ → Bool) → ℕ → ℕ → Type 0
HasNoneWithin are from to = (k : ℕ) → from ≤ k → k < to → are k ≡ false

-- no unit from `from` on is in the set
abbrev pub HasNoneFrom : List ℕ → ℕ → Type 0
HasNoneFrom words from = (k : ℕ) → from ≤ k → has_unit words k ≡ false

-- two sets have the same units, but for unit n
abbrev pub AreSameBut : ℕ → List ℕ → List ℕ → Type 0
AreSameBut n old new = (k : ℕ) → k ≢ n → has_unit new k ≡ has_unit old k

-- unit k is the first of these from `from` on
pub record IsFirstOf (are : ℕ → Bool) (from k : ℕ) : Type 0 where
  pub after : from ≤ k
  pub within : k < MOST_UNITS
  pub there : are k ≡ true
  pub between : HasNoneWithin are from k

-- it is the first of the set
abbrev pub IsFirstFrom : List ℕ → ℕ → ℕ → Type 0
IsFirstFrom words = IsFirstOf (has_unit words)
