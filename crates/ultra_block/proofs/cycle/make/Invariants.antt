use Rattle.std.proofs.Common.{◌≡◌, ◌++◌, drop, map, take}
use Rattle.ultra_block_core.specs.Making.{after_own_half}
use Rattle.ultra_block.proofs.cycle.make.Given as goal

abbrev pub invariant-loop-block : goal.invariant-loop-block
invariant-loop-block l = l.blocks ≡ map (after_own_half l.half l.rooms) (take l.block-index l.initial.blocks) ++ drop l.block-index l.initial.blocks
