use Rattle.std.proofs.Common.{◌≡◌, arith, ap, ◌∙◌}
use Rattle.ultra_tree.specs.{Counts.leaf_count, Places.depth_of_first}
use Rattle.ultra_tree.proofs.Depths.{greatest_depth}
use Rattle.ultra_tree.proofs.heights.height.Goals as goal

pub returns : goal.returns
returns g c = λ cell.
    let node = c.args.tree.now.node in
    let all : c.loop-place.place ≡ leaf_count node = omega (arith, c.loop-place-test.false, c.loop-place.auto.place-end, c.args.tree.now.counted) in
    c.loop-place.invariant ∙ (ap (λ i. depth_of_first node i) all ∙ greatest_depth cell node)
