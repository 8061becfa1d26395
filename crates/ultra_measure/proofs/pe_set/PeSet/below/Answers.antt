use Rattle.ultra_measure.proofs.PeSets.{ones_below}
use Rattle.ultra_measure.proofs.pe_set.PeSet.below.Goals as goal

pub returns : goal.returns
returns c = λ k. ones_below c.args.count k c.requires.few
