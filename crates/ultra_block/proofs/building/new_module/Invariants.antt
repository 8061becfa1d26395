use Rattle.std.proofs.Common.{◌≡◌, take}
use Rattle.ultra_model.specs.Machine.{size}
use Rattle.ultra_block.specs.Fresh.{initial_module}
use Rattle.ultra_block.proofs.building.new_module.Given as goal

abbrev pub invariant-loop-cell : goal.invariant-loop-cell
invariant-loop-cell l = l.memory_module ≡ initial_module (size l.config) l.number l.config.cells (take l.cell-index l.config.initial)
