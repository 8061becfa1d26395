use Rattle.ultra_model.specs.Machine.{size}
use Rattle.ultra_topology.specs.Set.{has_bit}
use Rattle.ultra_measure.specs.ElementStates.{AreKnownBut, AreBelow}
use Rattle.ultra_measure.proofs.element_states.ElementStates.look_at_all.Given as goal

abbrev pub invariant-due : goal.invariant-due
invariant-due l = AreKnownBut l.blocks.config l.blocks.program l.blocks.machine (λ p. has_bit l.left p) l.self × AreBelow (size l.blocks.config) l.left

abbrev pub decreases-due : goal.decreases-due
decreases-due l = l.left
