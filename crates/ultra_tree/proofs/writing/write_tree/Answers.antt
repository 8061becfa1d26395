use Rattle.std.proofs.Common.{◌≡◌, ℕ, List, [], ◌+◌, ◌-◌, ◌<◌, None, Ok, subst, arith}
use Rattle.ultra_msg.specs.declared.sink.SinkFault.{SinkFault}
use Rattle.ultra_msg.proofs.Writing.{IsSoFar, so_far_none, so_far_more, so_far_failed, so_far_last, writes_nothing}
use Rattle.ultra_tree.specs.{Counts.leaf_count, Places.{piece, pieces}}
use Rattle.ultra_tree.proofs.Texts.{pieces_next, whole_text}
use Rattle.ultra_tree.proofs.writing.write_tree.Goals as goal

pub loop-place-init : goal.loop-place-init
loop-place-init g c =
    let node = c.args.tree.now.node in
    let text : ℕ → List ℕ = λ i. piece node i 0 None in
    let n = leaf_count node in
    let all : n ≡ n - 0 = omega arith in
    let took = g.S.Sink.taken c.args.sink.now in
    let failed = g.S.Sink.failures c.args.sink.now in
    subst (λ k. IsSoFar SinkFault (pieces text 0 n) (pieces text 0 k) took took failed failed) all (so_far_none (pieces text 0 n) took failed)

pub returns-in_err-write_at : goal.returns-in_err-write_at
returns-in_err-write_at g c = λ cell.
    let node = c.args.tree.now.node in
    let text : ℕ → List ℕ = λ i. piece node i 0 None in
    let n = leaf_count node in
    let i = c.loop-place.place in
    let less : i < n = omega (arith, c.loop-place-test.true, c.args.tree.now.counted) in
    let before = rw (pieces_next text i n less) at c.loop-place.invariant in
    rw (← whole_text cell node) (so_far_failed (text i) (pieces text (i + 1) (n - (i + 1))) c.from_residual.result c.from_residual.ensures.0 before c.in_err-write_at.ensures)

pub loop-place-preserved : goal.loop-place-preserved
loop-place-preserved g c =
    let node = c.args.tree.now.node in
    let text : ℕ → List ℕ = λ i. piece node i 0 None in
    let n = leaf_count node in
    let i = c.loop-place.place in
    let less : i < n = omega (arith, c.loop-place-test.true, c.args.tree.now.counted) in
    let before = rw (pieces_next text i n less) at c.loop-place.invariant in
    so_far_more (text i) (pieces text (i + 1) (n - (i + 1))) before c.in_ok-write_at.ensures

pub returns : goal.returns
returns g c = λ cell.
    let node = c.args.tree.now.node in
    let text : ℕ → List ℕ = λ i. piece node i 0 None in
    let n = leaf_count node in
    let i = c.loop-place.place in
    let none : n - i ≡ 0 = omega (arith, c.loop-place-test.false, c.args.tree.now.counted) in
    let before = rw none at c.loop-place.invariant in
    rw (← whole_text cell node) (so_far_last [] (Ok _) before (writes_nothing _ _))
