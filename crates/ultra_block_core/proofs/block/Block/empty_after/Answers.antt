use Rattle.std.proofs.Common.{arith}
use Rattle.ultra_block_core.proofs.Common.{length-replicate, no_entry}
use Rattle.ultra_block_core.proofs.block.Block.empty_after.Goals as goal

pub invariant_of-result : goal.invariant_of-result
invariant_of-result c = grind (arith, length-replicate, no_entry)
