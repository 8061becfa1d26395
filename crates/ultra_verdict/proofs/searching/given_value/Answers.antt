use Rattle.std.proofs.Common.{arith, ◌∙◌}
use Rattle.ultra_verdict.proofs.{CellsGiven.{given_here, given_elsewhere}, searching.given_value.Goals.{then-address-cell, else-address-cell}}
use Rattle.ultra_verdict.proofs.searching.given_value.Goals as goal

pub loop-address-preserved : goal.loop-address-preserved
loop-address-preserved c =
    let is = c.args.cells.now in
    let k = c.loop-address.address-index in
    elim c.if-address-cell.branch [
      | then-address-cell w ↦ w.value-is ∙ given_here is k c.args.cell c.loop-address.value (omega arith) c.loop-address.invariant w.if-address-cell.true
      | else-address-cell w ↦ w.value-is ∙ given_elsewhere is k c.args.cell c.loop-address.value (omega arith) c.loop-address.invariant w.if-address-cell.false
    ]
