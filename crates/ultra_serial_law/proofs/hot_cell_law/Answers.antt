use Rattle.ultra_serial_law.proofs.{FirstCycle.hot_cell_occurs, HotCellLaw.hot_cell}
use Rattle.ultra_serial_law.proofs.hot_cell_law.Goals as goal

pub returns : goal.returns
returns c = record { at_once = hot_cell; occurs = hot_cell_occurs }
