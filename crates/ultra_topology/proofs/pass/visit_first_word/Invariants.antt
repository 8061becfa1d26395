use Rattle.std.proofs.Common.{ℕ, ◌≤◌}
use Rattle.ultra_topology.proofs.Visits.{HasVisited}
use Rattle.ultra_topology.proofs.pass.visit_first_word.Given as goal

abbrev pub decreases-loop-units : goal.decreases-loop-units
decreases-loop-units g l = l.units

abbrev pub invariant-loop-units : goal.invariant-loop-units
invariant-loop-units g l = (n : ℕ) × (n ≤ 320) × HasVisited (g.V.Visit.visited l.visit) (g.V.Visit.can_visit l.visit) (g.V.Visit.is_idle l.visit) l.initial.target l.target l.units n
