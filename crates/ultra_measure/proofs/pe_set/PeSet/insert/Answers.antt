use Rattle.ultra_measure.proofs.PeSets.{with_one}
use Rattle.ultra_measure.proofs.pe_set.PeSet.insert.Goals as goal

pub returns : goal.returns
returns c = rw (← c.self.view_is) (with_one c.self.inside.bits c.args.pe c.requires)
