use Rattle.std.proofs.Common.{◌≡◌, ◌++◌, take}
use Rattle.ultra_serial_law.specs.Legal.{cells_after, replayed}
use Rattle.ultra_serial.specs.DenseCells.{dense_cells}
use Rattle.ultra_serial.proofs.serial_state.serve.Given as goal

abbrev pub invariant-loop-leaf : goal.invariant-loop-leaf
invariant-loop-leaf l = record {
  order : l.order.items ≡ l.initial.order.items ++ replayed (dense_cells l.initial.memory) (take l.leaf-index l.leaves);
  cells : dense_cells l.memory ≡ cells_after (dense_cells l.initial.memory) (take l.leaf-index l.leaves);
}
