use Rattle.std.proofs.{Common.arith, lemmas.Grind.common_steps}
use Rattle.ultra_serial.proofs.by_name.ListsByName.set_place.Goals as goal

pub returns-then-number-len-clause-unchanged : goal.returns-then-number-len-clause-unchanged
returns-then-number-len-clause-unchanged g c = grind (arith, common_steps)

pub returns-then-number-len-clause-others : goal.returns-then-number-len-clause-others
returns-then-number-len-clause-others g c = grind (arith, common_steps)

pub returns-clause-set : goal.returns-clause-set
returns-clause-set g c = grind (arith, common_steps)

pub returns-clause-unchanged : goal.returns-clause-unchanged
returns-clause-unchanged g c = grind (arith, common_steps)

pub returns-clause-others : goal.returns-clause-others
returns-clause-others g c = grind (arith, common_steps)
