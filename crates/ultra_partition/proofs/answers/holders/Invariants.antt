use Rattle.std.proofs.Common.{◌≡◌, ℕ, take}
use Rattle.ultra_partition.proofs.Common.{list_any, has_unit, holds_at}
use Rattle.ultra_partition.proofs.answers.holders.Given as goal

abbrev pub invariant-loop-block : goal.invariant-loop-block
invariant-loop-block l = (u : ℕ) → has_unit l.all u ≡ list_any (λ b. holds_at b l.held u) (take l.block-index l.blocks)
