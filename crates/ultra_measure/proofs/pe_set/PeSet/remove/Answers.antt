use Rattle.std.proofs.Common.{◌^◌, ◌<◌, arith}
use Rattle.ultra_measure.proofs.PeSets.{without_one}
use Rattle.ultra_measure.proofs.pe_set.PeSet.remove.Goals as goal

pub returns : goal.returns
returns c = let fits : c.self.inside.bits < 2 ^ 64 = omega arith in rw (← c.self.view_is) (without_one c.self.inside.bits c.args.pe c.requires fits)
