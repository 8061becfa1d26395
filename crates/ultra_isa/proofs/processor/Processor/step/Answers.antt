use Rattle.std.proofs.{Common.arith, lemmas.Grind.common_steps}
use Rattle.ultra_isa.proofs.processor.Processor.step.Goals as goal

pub returns-in-Running-clause-core : goal.returns-in-Running-clause-core
returns-in-Running-clause-core c = grind (arith, common_steps)

pub returns-in-Running-clause-interface : goal.returns-in-Running-clause-interface
returns-in-Running-clause-interface c = grind (arith, common_steps)

pub returns-in-Running-clause-was : goal.returns-in-Running-clause-was
returns-in-Running-clause-was c = grind (arith, common_steps)

pub returns-in-Halted : goal.returns-in-Halted
returns-in-Halted c = grind (arith, common_steps)
