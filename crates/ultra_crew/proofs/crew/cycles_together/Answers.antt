use Rattle.std.proofs.{Common.arith, lemmas.Grind.common_steps}
use Rattle.ultra_crew.proofs.crew.cycles_together.Goals as goal

pub returns : goal.returns
returns g c = grind (arith, common_steps)
