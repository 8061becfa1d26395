use Rattle.ultra_topology.specs.Wiring.{AreNeighbours}
use Rattle.ultra_topology.proofs.wiring.Wiring.of.Given as goal

abbrev pub invariant-loop-number : goal.invariant-loop-number
invariant-loop-number l = AreNeighbours l.net l.number l.switches.items
