use Rattle.std.proofs.Common.{◌≡◌, ◌+◌, ◌<◌, ◌≤◌}
use Rattle.ultra_tree.specs.{Counts.{leaf_count, HasRightCounts}, Places.depth_at}
use Rattle.ultra_tree.proofs.heights.depth_of.Given as goal

-- the leaf is that of the place in what is left, which many pairs hold
abbrev pub invariant-loop-node : goal.invariant-loop-node
invariant-loop-node g l = record {
  right_counts : HasRightCounts l.node;
  within : l.place < leaf_count l.node;
  depth : l.depth + leaf_count l.node ≤ leaf_count l.initial.node;
  so_far : l.depth + depth_at l.node l.place ≡ depth_at l.initial.node l.initial.place;
}
