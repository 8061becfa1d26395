use Rattle.std.proofs.Common.{◌≡◌, replicate, None}
use Rattle.ultra_topology.proofs.links.Links.empty.Given as goal

abbrev pub invariant-loop-link : goal.invariant-loop-link
invariant-loop-link g l = l.table.items ≡ replicate l.link None
