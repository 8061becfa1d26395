use Rattle.std.proofs.Common.{◌≤◌}
use Rattle.ultra_tree.specs.declared.trees.CountedNode.{size-CountedNode}
use Rattle.ultra_tree.proofs.trees.CountedNode.+drop.Given as goal

-- what is left is no deeper
abbrev pub invariant-loop-self : goal.invariant-loop-self
invariant-loop-self g l = size-CountedNode _ l.self ≤ size-CountedNode _ l.initial.self
