use Rattle.std.proofs.{Common.{◌∙◌, sym, ap, arith, get_or}, lemmas.{List.take_all, Result.IfOk-from_err}}
use Rattle.ultra_serial_law.specs.Legal.{Cells, with_cell, given}
use Rattle.ultra_serial.specs.DenseCells.{cells_over}
use Rattle.ultra_serial.proofs.{CellsHeld.given_more, DenseCells.none_given}
use Rattle.ultra_serial.proofs.dense_memory.DenseMemory.new.Goals as goal

pub loop-cell-init : goal.loop-cell-init
loop-cell-init c =
    let low = c.in_ok-zeros.field-0.items in
    ap (cells_over low) c.in_ok-new.ensures ∙ none_given low c.in_ok-zeros.ensures

pub loop-cell-preserved : goal.loop-cell-preserved
loop-cell-preserved c =
    let k = c.loop-cell.cell-index in
    let x = get_or c.args.initial.now k (0, 0) in
    c.in_ok-set.ensures
    ∙ ap (λ (m : Cells). with_cell m x.0 x.1) c.loop-cell.invariant
    ∙ sym (given_more c.args.initial.now k (0, 0) (omega arith))

pub returns : goal.returns
returns c = c.loop-cell.invariant ∙ ap given (take_all c.loop-cell.cell-index c.args.initial.now (omega arith))

pub returns-in_err-zeros : goal.returns-in_err-zeros
returns-in_err-zeros c = IfOk-from_err c.from_residual.result _ c.from_residual.ensures.0

pub returns-in_err-new : goal.returns-in_err-new
returns-in_err-new c = IfOk-from_err c.from_residual-in_err-new.result _ c.from_residual-in_err-new.ensures.0

pub returns-in_err-set : goal.returns-in_err-set
returns-in_err-set c = IfOk-from_err c.from_residual-in_err-set.result _ c.from_residual-in_err-set.ensures.0
