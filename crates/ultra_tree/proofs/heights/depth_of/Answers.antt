use Rattle.std.proofs.Common.{◌≡◌, ◌+◌, ◌-◌, ◌<◌, ◌≤◌, subst, arith}
use Rattle.ultra_tree.specs.{Counts.{leaf_count, HasRightCounts}, Places.depth_at}
use Rattle.ultra_tree.proofs.{Places.right_parts, Depths.{depth_in_old, depth_in_new}, heights.depth_of.Goals.{then-place-old_leaves, else-place-old_leaves}}
use Rattle.ultra_tree.proofs.heights.depth_of.Goals as goal

pub loop-node-preserved : goal.loop-node-preserved
loop-node-preserved g c =
    let old = c.in-Pair.old.value in
    let new = c.in-Pair.new.value in
    let right = right_parts c.in-Pair.old_leaves c.in-Pair.new_leaves old new (subst (λ t. HasRightCounts t) c.in-Pair.is c.loop-node.invariant.right_counts) in
    let within = subst (λ t. c.loop-node.place < leaf_count t) c.in-Pair.is c.loop-node.invariant.within in
    let depth = subst (λ t. c.loop-node.depth + leaf_count t ≤ leaf_count c.args.tree.now) c.in-Pair.is c.loop-node.invariant.depth in
    let so_far = subst (λ t. c.loop-node.depth + depth_at t c.loop-node.place ≡ depth_at c.args.tree.now c.args.place) c.in-Pair.is c.loop-node.invariant.so_far in
    let of_old = right.of_old in
    let some_old = right.some_old in
    let some_new = right.some_new in
    elim c.if-place-old_leaves.branch [
      | then-place-old_leaves w ↦
          let here : c.if-place-old_leaves.node.now ≡ old = cc in
          let less : c.loop-node.place < leaf_count old = omega (arith, w.if-place-old_leaves.true, of_old) in
          let deeper = depth_in_old old new c.loop-node.place less in
          rw (here, w.place-is) record {
            right_counts = right.in_old;
            within = less;
            depth = omega (arith, depth, some_new);
            so_far = omega (arith, so_far, deeper);
          }
      | else-place-old_leaves w ↦
          let here : c.if-place-old_leaves.node.now ≡ new = cc in
          let past : leaf_count old ≤ c.loop-node.place = omega (arith, w.if-place-old_leaves.false, of_old) in
          let deeper = depth_in_new old new c.loop-node.place past in
          let place : c.if-place-old_leaves.place ≡ c.loop-node.place - leaf_count old = cc in
          rw (here, place) record {
            right_counts = right.in_new;
            within = omega (arith, within, past);
            depth = omega (arith, depth, some_old);
            so_far = omega (arith, so_far, deeper);
          }
    ]
