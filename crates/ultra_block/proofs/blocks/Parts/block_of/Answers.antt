use Rattle.std.proofs.{Common.arith, lemmas.Grind.common_steps}
use Rattle.ultra_block.proofs.blocks.Parts.block_of.Goals as goal

pub returns : goal.returns
returns c = grind (arith, common_steps)
