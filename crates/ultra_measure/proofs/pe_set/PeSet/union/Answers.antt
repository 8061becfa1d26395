use Rattle.ultra_measure.proofs.PeSets.{in_either}
use Rattle.ultra_measure.proofs.pe_set.PeSet.union.Goals as goal

pub returns : goal.returns
returns c = rw (← c.self.view_is, ← c.other.view_is) (in_either c.self.inside.bits c.other.inside.bits)
