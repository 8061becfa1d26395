use Rattle.std.proofs.Common.{◌≡◌}
use Rattle.ultra_tree.specs.Places.{depth_of_first}
use Rattle.ultra_tree.proofs.heights.height.Given as goal

abbrev pub invariant-loop-place : goal.invariant-loop-place
invariant-loop-place g l = l.highest ≡ depth_of_first l.tree.node l.place
