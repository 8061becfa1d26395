use Rattle.ultra_para_run.proofs.Draw.{high_few, high_fits}
use Rattle.ultra_para_run.proofs.drawing.highest_bits.Goals as goal

pub overflow_cast-result-2 : goal.overflow_cast-result-2
overflow_cast-result-2 c = record { fits = high_fits c.args.x c.args.stages c.ranges.x.fits c.requires.few }

pub returns-clause-below : goal.returns-clause-below
returns-clause-below c = high_few c.args.x c.args.stages c.ranges.x.fits c.requires.few
