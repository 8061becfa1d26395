use Rattle.std.proofs.Common.{◌≡◌, map, take}
use Rattle.ultra_block.proofs.blocks.Blocks.stops.Given as goal

abbrev pub invariant-loop-block : goal.invariant-loop-block
invariant-loop-block l = l.stops.lists ≡ map (λ b. b.stops) (take l.block-index l.block-items)
