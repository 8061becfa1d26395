use Rattle.std.proofs.{Common.arith, lemmas.Grind.common_steps}
use Rattle.ultra_block.proofs.cycle.make_cycle.Goals as goal

pub returns-in-len1 : goal.returns-in-len1
returns-in-len1 c = λ program whole. grind (arith, common_steps, c.make_cycle_of_one.ensures c.args.config.now c.args.partition.now c.args.done c.requires.counted program)

pub returns-in-len1-2 : goal.returns-in-len1-2
returns-in-len1-2 c = λ program whole. grind (arith, common_steps, c.make_cycle_of_one-in-len1-2.ensures c.args.config.now c.args.partition.now c.args.done c.requires.counted program)

pub returns-in_default : goal.returns-in_default
returns-in_default c = grind (arith, common_steps)
