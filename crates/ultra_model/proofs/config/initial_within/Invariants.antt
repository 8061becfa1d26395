use Rattle.std.proofs.Common.{take}
use Rattle.ultra_model.proofs.InitialCells.{IsMarked}
use Rattle.ultra_model.proofs.config.initial_within.Given as goal

abbrev pub invariant-loop-pair : goal.invariant-loop-pair
invariant-loop-pair l = IsMarked l.all_cells (take l.pair-index l.given) l.is_given.items l.initial'.items
