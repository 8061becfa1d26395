use Rattle.std.proofs.{Common.arith, lemmas.Grind.common_steps}
use Rattle.ultra_block.proofs.building.new_module.Goals as goal

pub returns-in_err-memory_module : goal.returns-in_err-memory_module
returns-in_err-memory_module c = grind (arith, common_steps)

pub returns : goal.returns
returns c = grind (arith, common_steps)
