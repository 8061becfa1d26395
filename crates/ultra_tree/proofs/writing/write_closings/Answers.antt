use Rattle.std.proofs.Common.{◌≡◌, ◌+◌, ◌-◌, ◌<◌, ◌++◌, ℕ, suc, codes, arith, ap}
use Rattle.ultra_msg.proofs.Writing.{so_far_more, so_far_failed}
use Rattle.ultra_tree.specs.Text.{closings}
use Rattle.ultra_tree.proofs.writing.write_closings.Goals as goal

closings_next : (n i : ℕ) → i < n → closings (n - i) ≡ codes "]" ++ closings (n - (i + 1))
closings_next n i h = let e : n - i ≡ suc (n - (i + 1)) = omega (arith, h) in ap closings e

pub returns-in_err-write_closing : goal.returns-in_err-write_closing
returns-in_err-write_closing g c =
    let before = rw (closings_next c.args.count c.loop.counter c.loop-test.true) at c.loop.invariant in
    so_far_failed (codes "]") (closings (c.args.count - (c.loop.counter + 1))) c.from_residual.result c.from_residual.ensures.0 before c.in_err-write_closing.ensures

pub loop-preserved : goal.loop-preserved
loop-preserved g c =
    let before = rw (closings_next c.args.count c.loop.counter c.loop-test.true) at c.loop.invariant in
    so_far_more (codes "]") (closings (c.args.count - (c.loop.counter + 1))) before c.in_ok-write_closing.ensures
