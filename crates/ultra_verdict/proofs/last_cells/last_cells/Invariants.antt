use Rattle.ultra_model.specs.Trace.{cell_value}
use Rattle.ultra_verdict.proofs.CellsGiven.{AreHeldBelow}
use Rattle.ultra_verdict.proofs.last_cells.last_cells.Given as goal

abbrev pub invariant-loop-cell : goal.invariant-loop-cell
invariant-loop-cell l = AreHeldBelow (cell_value l.machine.settings l.machine.state) l.cells.items l.cell
