use Rattle.std.proofs.{Common.arith, lemmas.Grind.common_steps}
use Rattle.ultra_topology.proofs.wiring.Wiring.unit.Goals as goal

pub returns-then-number-self-clause-value : goal.returns-then-number-self-clause-value
returns-then-number-self-clause-value c = grind (arith, common_steps)

pub returns-then-number-self-clause-is : goal.returns-then-number-self-clause-is
returns-then-number-self-clause-is c = grind (arith, common_steps)

pub returns-then-number-self-2-clause-value : goal.returns-then-number-self-2-clause-value
returns-then-number-self-2-clause-value c = grind (arith, common_steps)

pub returns-then-number-self-2-clause-is : goal.returns-then-number-self-2-clause-is
returns-then-number-self-2-clause-is c = grind (arith, common_steps)

pub returns-in-Some-clause-value : goal.returns-in-Some-clause-value
returns-in-Some-clause-value c = grind (arith, common_steps)

pub returns-in-Some-clause-is : goal.returns-in-Some-clause-is
returns-in-Some-clause-is c = grind (arith, common_steps)

pub returns-in-None-clause-value : goal.returns-in-None-clause-value
returns-in-None-clause-value c = grind (arith, common_steps)

pub returns-in-None-clause-is : goal.returns-in-None-clause-is
returns-in-None-clause-is c = grind (arith, common_steps)
