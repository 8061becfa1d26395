use Rattle.std.proofs.Common.{arith}
use Rattle.ultra_pni.proofs.Rings.{pop-requests_in_ring}
use Rattle.ultra_pni.proofs.ring.RequestRing.pop.Goals as goal

pub returns-clause-rest : goal.returns-clause-rest
returns-clause-rest c = rw (← c.self.view_is) (pop-requests_in_ring c.self.inside.places c.self.inside.first c.self.inside.count (omega arith))
