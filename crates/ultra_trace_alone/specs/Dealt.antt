-- the partition of a run
use Rattle.std.specs.Prelude.{◌≡◌, ℕ, ◌<◌, ◌%◌, List, length, slice_index}

-- each unit is in the block that its number modulo the number of workers names
abbrev pub IsDealtOut : ℕ → List ℕ → Type 0
IsDealtOut workers partition =
    (unit : ℕ) → unit < length partition → slice_index partition unit ≡ unit % workers
