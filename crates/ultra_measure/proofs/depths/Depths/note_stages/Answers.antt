use Rattle.std.proofs.{Common.arith, lemmas.Grind.common_steps}
use Rattle.ultra_measure.proofs.depths.Depths.note_stages.Goals as goal

pub loop-stage-init : goal.loop-stage-init
loop-stage-init g c = grind (arith, common_steps)

pub returns : goal.returns
returns g c = grind (arith, common_steps)
