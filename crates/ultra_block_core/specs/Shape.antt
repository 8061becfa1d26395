-- a block of a machine of d stages: it has an entry for each unit, and for each link
use Rattle.std.specs.Prelude.{◌≡◌, ℕ, ◌+◌, ◌*◌, ◌^◌, length}
use Rattle.ultra_block_core.specs.{Prelude.switch_count, BlockState.BlockState}

pub record IsShaped (d : ℕ) (b : BlockState) : Type 0 where
  pub stages : b.stages ≡ d
  pub switches : length b.switches ≡ switch_count d
  pub modules : length b.modules ≡ 2 ^ d
  pub elements : length b.elements ≡ 2 ^ d
  pub replies : length b.replies ≡ (d + 1) * 2 ^ d
  pub requests : length b.requests ≡ (d + 1) * 2 ^ d
