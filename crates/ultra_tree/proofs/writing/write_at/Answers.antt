use Rattle.std.proofs.Common.{◌+◌, ◌<◌, ◌≤◌, None, subst, arith}
use Rattle.ultra_msg.proofs.Writing.{so_far_none, so_far_more, so_far_failed, so_far_last}
use Rattle.ultra_tree.specs.{Counts.{leaf_count, HasRightCounts}, Places.piece, Text.opening}
use Rattle.ultra_tree.proofs.{Places.right_parts, Texts.{text_in_old, text_in_new}}
use Rattle.ultra_tree.proofs.writing.write_at.Goals as goal

pub returns-in_err-write_opening-in-Pair : goal.returns-in_err-write_opening-in-Pair
returns-in_err-write_opening-in-Pair g c =
    let before = rw c.in-Pair.is at c.loop-node.invariant.so_far in
    so_far_failed (opening c.loop-node.place c.in-Pair.stage c.in-Pair.position) _ c.from_residual.result c.from_residual.ensures.0 before c.in_err-write_opening-in-Pair.ensures

pub loop-node-preserved-then-place-old_leaves : goal.loop-node-preserved-then-place-old_leaves
loop-node-preserved-then-place-old_leaves g c =
    let old = c.in-Pair.old.value in
    let new = c.in-Pair.new.value in
    let right = right_parts c.in-Pair.old_leaves c.in-Pair.new_leaves old new (subst (λ t. HasRightCounts t) c.in-Pair.is c.loop-node.invariant.right_counts) in
    let depth = subst (λ t. c.loop-node.closing + leaf_count t ≤ leaf_count c.args.tree.now) c.in-Pair.is c.loop-node.invariant.depth in
    let of_old = right.of_old in
    let less : c.loop-node.place < leaf_count old = omega (arith, c.if-place-old_leaves.true, of_old) in
    let text = text_in_old old new c.in-Pair.old_first c.loop-node.place c.loop-node.closing c.loop-node.mark less in
    let before = rw c.in-Pair.is at c.loop-node.invariant.so_far in
    let after = so_far_more (opening c.loop-node.place c.in-Pair.stage c.in-Pair.position) _ before c.in_ok-write_opening-in-Pair.ensures in
    rw c.deref-node.ensures record {
      right_counts = right.in_old;
      within = less;
      depth = omega (arith, depth);
      so_far = rw text at after;
    }

pub loop-node-preserved : goal.loop-node-preserved
loop-node-preserved g c =
    let old = c.in-Pair.old.value in
    let new = c.in-Pair.new.value in
    let right = right_parts c.in-Pair.old_leaves c.in-Pair.new_leaves old new (subst (λ t. HasRightCounts t) c.in-Pair.is c.loop-node.invariant.right_counts) in
    let within = subst (λ t. c.loop-node.place < leaf_count t) c.in-Pair.is c.loop-node.invariant.within in
    let depth = subst (λ t. c.loop-node.closing + leaf_count t ≤ leaf_count c.args.tree.now) c.in-Pair.is c.loop-node.invariant.depth in
    let of_old = right.of_old in
    let some_old = right.some_old in
    let past : leaf_count old ≤ c.loop-node.place = omega (arith, c.if-place-old_leaves.false, of_old) in
    let text = text_in_new old new c.in-Pair.old_first c.loop-node.place c.loop-node.closing c.loop-node.mark past in
    let before = rw c.in-Pair.is at c.loop-node.invariant.so_far in
    let after = so_far_more (opening c.loop-node.place c.in-Pair.stage c.in-Pair.position) _ before c.in_ok-write_opening-in-Pair.ensures in
    rw (c.deref-node-else-place-old_leaves.ensures, of_old) record {
      right_counts = right.in_new;
      within = omega (arith, within, past);
      depth = omega (arith, depth, some_old);
      so_far = rw text at after;
    }

pub loop-node-init : goal.loop-node-init
loop-node-init g c = record {
  right_counts = c.requires.right_counts;
  within = c.requires.within;
  depth = omega arith;
  so_far = so_far_none (piece c.args.tree.now c.args.place 0 None) (g.S.Sink.taken c.args.sink.now) (g.S.Sink.failures c.args.sink.now);
}

pub overflow_sub-place : goal.overflow_sub-place
overflow_sub-place g c = c.if-place-old_leaves.false

pub overflow_add-closing : goal.overflow_add-closing
overflow_add-closing g c =
    let depth = c.loop-node.invariant.depth in let within = c.loop-node.invariant.within in let fits = c.requires.fits in
    omega (arith, depth, within, fits)

pub returns-in-Leaf : goal.returns-in-Leaf
returns-in-Leaf g c =
    let before = rw c.in-Leaf.is at c.loop-node.invariant.so_far in
    so_far_last _ c.write_leaf.result before c.write_leaf.ensures
