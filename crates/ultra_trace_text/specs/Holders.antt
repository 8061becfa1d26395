-- the units that hold something
use Rattle.std.specs.Prelude.{ℕ, List}
use Rattle.ultra_block.specs.{IsSetOf, Held.Held, Holding.holds, State.BlocksState}

-- the set has exactly the units that hold it
abbrev pub AreHolders : BlocksState → Held → List ℕ → Type 0
AreHolders b held units = IsSetOf (holds b.config.stages b.machine held) units
