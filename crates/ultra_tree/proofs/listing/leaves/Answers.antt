use Rattle.std.proofs.Common.{◌≡◌, map, arith, ap, sym, ◌∙◌, add-one}
use Rattle.ultra_tree.specs.{Counts.leaf_count, Places.leaves_in, Seen.at_cell}
use Rattle.ultra_tree.proofs.Listed.{length_leaves, leaves_seen, take_next, take_whole}
use Rattle.ultra_tree.proofs.listing.leaves.Goals as goal

pub loop-place-preserved : goal.loop-place-preserved
loop-place-preserved g c =
    let xs = leaves_in c.args.tree.now.node in
    let next = take_next xs c.loop-place.place c.leaf_at.result c.leaf_at.ensures in
    rw add-one (c.in_ok-push.ensures.items ∙ (rw c.loop-place.invariant (sym next)))

pub returns : goal.returns
returns g c = λ cell.
    let node = c.args.tree.now.node in
    let all : c.loop-place.place ≡ leaf_count node = omega (arith, c.loop-place-test.false, c.loop-place.auto.place-end, c.args.tree.now.counted) in
    let whole = take_whole (leaves_in node) c.loop-place.place (omega (arith, all, length_leaves node)) in
    ap (λ ls. map (at_cell cell) ls) (c.loop-place.invariant ∙ whole) ∙ leaves_seen cell node
