use Rattle.std.proofs.Common.{Ok, Err, refl}
use Rattle.ultra_msg.proofs.Writing.{writes_then, writes_failed}
use Rattle.ultra_tree.specs.Text.{closings, order_mark_text}
use Rattle.ultra_tree.proofs.writing.write_long_leaf.Goals as goal

pub returns-in_err-write_name : goal.returns-in_err-write_name
returns-in_err-write_name g c =
    let bad = c.from_residual.ensures.0 in
    let named = writes_failed {U = Unit {0}} (closings c.args.closing) (Err _) refl c.in_err-write_name.ensures in
    writes_failed (order_mark_text c.args.mark) c.from_residual.result bad named

pub returns-in_err-write_closings : goal.returns-in_err-write_closings
returns-in_err-write_closings g c =
    writes_failed (order_mark_text c.args.mark) c.from_residual-in_err-write_closings.result c.from_residual-in_err-write_closings.ensures.0 (writes_then (Err _) c.in_ok-write_name.ensures c.in_err-write_closings.ensures)

pub returns : goal.returns
returns g c = writes_then c.write_mark.result (writes_then (Ok tt) c.in_ok-write_name.ensures c.in_ok-write_closings.ensures) c.write_mark.ensures
