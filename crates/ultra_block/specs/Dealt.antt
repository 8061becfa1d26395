-- how many blocks a partition makes
use Rattle.std.specs.Prelude.{◌≡◌, ℕ, ◌+◌, ◌<◌, ◌≤◌, List, length}
use Rattle.ultra_partition.specs.Cut.{home}

-- there are as many blocks as `count`: at least one, and of several the last is the home of a unit
abbrev pub IsLastNamed : List ℕ → ℕ → Type 0
IsLastNamed partition count =
    (1 ≤ count) × (1 < count → (n : ℕ) × (n < length partition) × (home partition n + 1 ≡ count))
