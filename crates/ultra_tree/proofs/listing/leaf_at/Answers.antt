use Rattle.std.proofs.Common.{◌≡◌, ℕ, ◌-◌, ◌<◌, ◌≤◌, subst, arith, sym, ◌∙◌, ◌++◌}
use Rattle.std.specs.Prelude.{slice_get}
use Rattle.ultra_tree.specs.{Counts.{leaf_count, HasRightCounts}, Places.leaves_in}
use Rattle.ultra_tree.proofs.{Listed.{get_left, get_right, length_leaves}, Places.right_parts, listing.leaf_at.Goals.{then-old_first, else-old_first}}
use Rattle.ultra_tree.proofs.listing.leaf_at.Goals as goal

pub loop-node-preserved-then-place-of_first : goal.loop-node-preserved-then-place-of_first
loop-node-preserved-then-place-of_first g c =
    let old = c.in-Pair.old.value in
    let new = c.in-Pair.new.value in
    let right = right_parts c.in-Pair.old_leaves c.in-Pair.new_leaves old new (subst (λ t. HasRightCounts t) c.in-Pair.is c.loop-node.invariant.right_counts) in
    let of_old = right.of_old in
    let of_new = right.of_new in
    elim c.if-old_first.branch [
      | then-old_first w ↦
          let here : c.deref-node.result.now ≡ old = rw w.of_first-is at c.deref-node.ensures in
          let few : c.loop-node.place < c.in-Pair.old_leaves = rw w.of_first-is at c.if-place-of_first.true in
          let less : c.loop-node.place < leaf_count old = omega (arith, few, of_old) in
          let whole : slice_get (leaves_in old ++ leaves_in new) c.loop-node.place ≡ slice_get (leaves_in c.args.tree.now) c.args.place = rw (c.in-Pair.is, w.if-old_first.true) at c.loop-node.invariant.same in
          rw here record {
            right_counts = right.in_old;
            within = less;
            same = sym (get_left (leaves_in old) (leaves_in new) c.loop-node.place (omega (arith, less, length_leaves old))) ∙ whole;
          }
      | else-old_first w ↦
          let here : c.deref-node.result.now ≡ new = rw w.of_first-is at c.deref-node.ensures in
          let few : c.loop-node.place < c.in-Pair.new_leaves = rw w.of_first-is at c.if-place-of_first.true in
          let less : c.loop-node.place < leaf_count new = omega (arith, few, of_new) in
          let whole : slice_get (leaves_in new ++ leaves_in old) c.loop-node.place ≡ slice_get (leaves_in c.args.tree.now) c.args.place = rw (c.in-Pair.is, w.if-old_first.false) at c.loop-node.invariant.same in
          rw here record {
            right_counts = right.in_new;
            within = less;
            same = sym (get_left (leaves_in new) (leaves_in old) c.loop-node.place (omega (arith, less, length_leaves new))) ∙ whole;
          }
    ]

pub loop-node-preserved : goal.loop-node-preserved
loop-node-preserved g c =
    let old = c.in-Pair.old.value in
    let new = c.in-Pair.new.value in
    let right = right_parts c.in-Pair.old_leaves c.in-Pair.new_leaves old new (subst (λ t. HasRightCounts t) c.in-Pair.is c.loop-node.invariant.right_counts) in
    let within = subst (λ t. c.loop-node.place < leaf_count t) c.in-Pair.is c.loop-node.invariant.within in
    let of_old = right.of_old in
    let of_new = right.of_new in
    elim c.if-old_first.branch [
      | then-old_first w ↦
          let here : c.deref-node-else-place-of_first.result.now ≡ new = rw w.of_first-is at c.deref-node-else-place-of_first.ensures in
          let count : c.if-old_first.of_first.2 ≡ leaf_count old = rw w.of_first-is of_old in
          let past : leaf_count old ≤ c.loop-node.place = rw count at c.if-place-of_first.false in
          let whole : slice_get (leaves_in old ++ leaves_in new) c.loop-node.place ≡ slice_get (leaves_in c.args.tree.now) c.args.place = rw (c.in-Pair.is, w.if-old_first.true) at c.loop-node.invariant.same in
          rw (here, count) record {
            right_counts = right.in_new;
            within = omega (arith, within, past);
            same = subst (λ (i : ℕ). slice_get (leaves_in new) (c.loop-node.place - i) ≡ slice_get (leaves_in c.args.tree.now) c.args.place) (length_leaves old) (sym (get_right (leaves_in old) (leaves_in new) c.loop-node.place (omega (arith, past, length_leaves old))) ∙ whole);
          }
      | else-old_first w ↦
          let here : c.deref-node-else-place-of_first.result.now ≡ old = rw w.of_first-is at c.deref-node-else-place-of_first.ensures in
          let count : c.if-old_first.of_first.2 ≡ leaf_count new = rw w.of_first-is of_new in
          let past : leaf_count new ≤ c.loop-node.place = rw count at c.if-place-of_first.false in
          let whole : slice_get (leaves_in new ++ leaves_in old) c.loop-node.place ≡ slice_get (leaves_in c.args.tree.now) c.args.place = rw (c.in-Pair.is, w.if-old_first.false) at c.loop-node.invariant.same in
          rw (here, count) record {
            right_counts = right.in_old;
            within = omega (arith, within, past);
            same = subst (λ (i : ℕ). slice_get (leaves_in old) (c.loop-node.place - i) ≡ slice_get (leaves_in c.args.tree.now) c.args.place) (length_leaves new) (sym (get_right (leaves_in new) (leaves_in old) c.loop-node.place (omega (arith, past, length_leaves new))) ∙ whole);
          }
    ]
