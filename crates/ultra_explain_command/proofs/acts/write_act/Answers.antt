use Rattle.std.proofs.Common.{Ok, Err, codes, refl}
use Rattle.ultra_msg.proofs.Writing.{writes_then, writes_failed}
use Rattle.ultra_tree.specs.{Seen.seen, Text.tree_text}
use Rattle.ultra_explain_command.proofs.acts.write_act.Goals as goal

pub returns-in_err-write_place : goal.returns-in_err-write_place
returns-in_err-write_place g c =
    let placed = writes_failed {U = Unit {0}} (tree_text (seen c.args.cell c.args.tree.now)) (Err _) refl c.in_err-write_place.ensures in
    writes_failed (codes "\n") c.from_residual.result c.from_residual.ensures.0 placed

pub returns-in_err-write_tree : goal.returns-in_err-write_tree
returns-in_err-write_tree g c =
    writes_failed (codes "\n") c.from_residual-in_err-write_tree.result c.from_residual-in_err-write_tree.ensures.0 (writes_then (Err _) c.in_ok-write_place.ensures (c.in_err-write_tree.ensures c.args.cell))

pub returns : goal.returns
returns g c =
    let e = c.write_all.ensures in
    writes_then c.write_all.result (writes_then (Ok _) c.in_ok-write_place.ensures (c.in_ok-write_tree.ensures c.args.cell)) record { ok = e.ok; still = e.still; err = e.err; counted = e.counted }
