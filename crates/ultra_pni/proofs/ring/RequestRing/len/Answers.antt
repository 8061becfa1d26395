use Rattle.std.proofs.Common.{sym}
use Rattle.ultra_pni.proofs.Rings.{length-requests_in_ring}
use Rattle.ultra_pni.proofs.ring.RequestRing.len.Goals as goal

pub returns-clause-value : goal.returns-clause-value
returns-clause-value c = rw (← c.self.view_is) (sym (length-requests_in_ring c.self.inside.places c.self.inside.first c.self.inside.count))
