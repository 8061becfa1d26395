use Rattle.std.proofs.Common.{◌≡◌, take}
use Rattle.ultra_serial_law.specs.Legal.{given}
use Rattle.ultra_serial.specs.DenseCells.{dense_cells}
use Rattle.ultra_serial.proofs.dense_memory.DenseMemory.new.Given as goal

abbrev pub invariant-loop-cell : goal.invariant-loop-cell
invariant-loop-cell l = dense_cells l.memory ≡ given (take l.cell-index l.initial')
