use Rattle.std.proofs.Common.{arith, rules}
use Rattle.ultra_pni.proofs.Rings.{push-requests_in_ring, length-requests_in_ring}
use Rattle.ultra_pni.proofs.ring.RequestRing.push.Goals as goal

pub invariant_of-self : goal.invariant_of-self
invariant_of-self c =
    let few = rw (← c.self.view_is, length-requests_in_ring c.self.inside.places c.self.inside.first c.self.inside.count) at c.requires in
    record { starts = c.self.invariant.starts; fits = omega (arith, few) }

pub returns : goal.returns
returns c =
    let few = rw (← c.self.view_is, length-requests_in_ring c.self.inside.places c.self.inside.first c.self.inside.count) at c.requires in
    rw (← c.self.view_is) (push-requests_in_ring c.self.inside.places c.self.inside.first c.self.inside.count c.args.request (search rules) few)
