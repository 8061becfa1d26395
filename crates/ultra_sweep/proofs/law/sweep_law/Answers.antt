use Rattle.ultra_sweep.proofs.Whole.{sweep}
use Rattle.ultra_sweep.proofs.law.sweep_law.Goals as goal

pub returns : goal.returns
returns c = sweep
