use Rattle.std.proofs.Common.{◌≡◌, take}
use Rattle.ultra_tree.specs.Places.{leaves_in}
use Rattle.ultra_tree.proofs.listing.leaves.Given as goal

abbrev pub invariant-loop-place : goal.invariant-loop-place
invariant-loop-place g l = l.leaves.items ≡ take l.place (leaves_in l.tree.node)
