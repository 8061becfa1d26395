use Rattle.std.proofs.Common.{◌≡◌, sym, ap, ◌^◌, ◌∙◌, arith}
use Rattle.ultra_model.specs.Trace.{cell_value}
use Rattle.ultra_verdict.proofs.{CellsGiven.{one_held, zero_held, all_held, beyond_memory, word_in}, last_cells.last_cells.Goals.{then-word-ne0+in_ok-push, else-word-ne0}}
use Rattle.ultra_verdict.proofs.last_cells.last_cells.Goals as goal

pub loop-cell-preserved : goal.loop-cell-preserved
loop-cell-preserved c =
    let v = c.args.machine.now.settings in
    let m = c.args.machine.now.state in
    let cell = c.loop-cell.cell in
    let is = c.loop-cell.cells.items in
    let sized = c.size-modules.ensures.value ∙ ap (λ d. 2 ^ d) (rw c.config.ensures at c.net.ensures) in
    let word : c.unwrap_or-word.result ≡ cell_value v m cell =
    word_in v m cell c.size-modules.result c.memory_module-module.result.now c.peek.result c.unwrap_or-word.result sized c.memory_module-module.ensures c.peek.ensures c.unwrap_or-word.ensures in
    elim c.if-word-ne0.branch [
      | then-word-ne0+in_ok-push w ↦ rw (w.cells-is, w.in_ok-push.ensures.items) (one_held (cell_value v m) is cell c.loop-cell.invariant c.unwrap_or-word.result word)
      | else-word-ne0 w ↦ rw w.cells-is (zero_held (cell_value v m) is cell c.loop-cell.invariant (sym word ∙ w.if-word-ne0.false))
    ]

pub returns : goal.returns
returns c =
    let v = c.args.machine.now.settings in
    let m = c.args.machine.now.state in
    let count = rw c.config-2.ensures at c.all_cells-cell-end.ensures.value in
    all_held (cell_value v m) c.loop-cell.cells.items c.loop-cell.cell c.loop-cell.invariant (λ a l. beyond_memory v m c.requires a (omega (arith, count, l)))
