-- what is kept of latencies
use Rattle.std.specs.Prelude.{ℕ, ◌≡◌, ◌*◌, ◌^◌, ◌≤◌, List, length, sum, min, max, Option, Some, None}
use Rattle.std.specs.List.{reduce}
use Rattle.ultra_latency.specs.declared.summary.Latencies.{Latencies}

-- how many there are, their sum, the least and the greatest
pub record AreSummedUp (xs : List ℕ) (l : Latencies) : Type 0 where
  pub count : l.count ≡ length xs
  pub sum : l.sum ≡ sum xs
  pub least : l.least ≡ reduce min xs
  pub greatest : l.greatest ≡ reduce max xs

-- none is above 2^20
abbrev pub AreSmall : Latencies → Type 0
AreSmall l = l.sum ≤ l.count * 2 ^ 20

-- of a number, if there is one, and another
abbrev pub lesser_of : Option ℕ → ℕ → ℕ
lesser_of None n = n
lesser_of (Some m) n = min m n

abbrev pub greater_of : Option ℕ → ℕ → ℕ
greater_of None n = n
greater_of (Some m) n = max m n
