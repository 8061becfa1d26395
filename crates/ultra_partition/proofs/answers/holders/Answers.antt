use Rattle.std.proofs.Common.{arith}
use Rattle.ultra_partition.proofs.Questions.{held_by_all}
use Rattle.ultra_partition.proofs.answers.holders.Goals as goal

pub returns : goal.returns
returns c = held_by_all c.args.blocks.now c.args.held c.loop-block.all c.loop-block.block-index (omega arith) c.loop-block.invariant
