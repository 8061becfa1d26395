use Rattle.std.proofs.Common.{arith, ap, ◌∙◌}
use Rattle.ultra_serial_law.specs.Legal.{given}
use Rattle.ultra_verdict.proofs.{CellsGiven.{acted_here, acted_elsewhere}, searching.value_after.Goals.{then-entry-cell, else-entry-cell}}
use Rattle.ultra_verdict.proofs.searching.value_after.Goals as goal

pub loop-entry-preserved : goal.loop-entry-preserved
loop-entry-preserved c =
    let m = given c.args.initial.now in
    let xs = c.args.entries.now in
    let k = c.loop-entry.entry-index in
    let v = c.loop-entry.value in
    elim c.if-entry-cell.branch [
      | then-entry-cell w ↦ w.value-is ∙ (ap (λ r. r.0) w.act-new.ensures ∙ acted_here m xs k _ c.args.cell v (omega arith) c.loop-entry.invariant w.if-entry-cell.true)
      | else-entry-cell w ↦ w.value-is ∙ acted_elsewhere m xs k _ c.args.cell v (omega arith) c.loop-entry.invariant w.if-entry-cell.false
    ]
