use Rattle.std.proofs.Common.{◌≡◌, ◌<◌, slice_get}
use Rattle.ultra_tree.specs.{Counts.{leaf_count, HasRightCounts}, Places.leaves_in}
use Rattle.ultra_tree.proofs.listing.leaf_at.Given as goal

-- the leaf is that of the place in what is left
abbrev pub invariant-loop-node : goal.invariant-loop-node
invariant-loop-node g l = record {
  right_counts : HasRightCounts l.node;
  within : l.place < leaf_count l.node;
  same : slice_get (leaves_in l.node) l.place ≡ slice_get (leaves_in l.initial.node) l.initial.place;
}
