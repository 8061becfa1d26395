use Rattle.std.proofs.Common.{◌^◌, ◌<◌, arith}
use Rattle.ultra_measure.proofs.PeSets.{taken}
use Rattle.ultra_measure.proofs.pe_set.PeSet.take_first.Goals as goal

pub returns-clause-some : goal.returns-clause-some
returns-clause-some c =
    let bits = c.self.inside.bits in
    let some : 0 < bits = omega (arith, c.if-self-eq0.false) in
    let fits : bits < 2 ^ 64 = omega arith in
    rw (← c.self.view_is) (taken bits some fits)
