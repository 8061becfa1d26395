use Rattle.std.proofs.Common.{◌-◌}
use Rattle.ultra_topology.proofs.Visits.{HasPassed, place}
use Rattle.ultra_topology.proofs.pass.visit_some.Given as goal

abbrev pub decreases-loop-next : goal.decreases-loop-next
decreases-loop-next g l = 320 - place l.next

abbrev pub invariant-loop-next : goal.invariant-loop-next
invariant-loop-next g l = HasPassed (g.V.Visit.visited l.visit) (g.V.Visit.can_visit l.visit) (g.V.Visit.is_idle l.visit) l.initial.target l.target l.next
