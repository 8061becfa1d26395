use Rattle.std.proofs.Common.{◌≡◌, take}
use Rattle.ultra_para.proofs.Starting.{cells_given}
use Rattle.ultra_para.proofs.paracomputer.initial_cells.Given as goal

abbrev pub invariant-loop-cell : goal.invariant-loop-cell
invariant-loop-cell l = l.cells.items ≡ cells_given l.config (take l.cell-index l.cell-items)
