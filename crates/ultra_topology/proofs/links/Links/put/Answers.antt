use Rattle.std.proofs.Common.{arith}
use Rattle.ultra_topology.proofs.Marks.{one_more}
use Rattle.ultra_topology.proofs.links.Links.put.Goals as goal

pub invariant_of-self : goal.invariant_of-self
invariant_of-self g c = rw c.fill.ensures (one_more _ _ _ _ _ _ c.args.target _ c.self.invariant (grind arith) (grind arith) (grind arith))
