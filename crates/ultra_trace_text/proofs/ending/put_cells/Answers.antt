use Rattle.ultra_model.specs.Trace.{cell_lines}
use Rattle.ultra_trace_text.proofs.Numbered.{writes_number}
use Rattle.ultra_trace_text.proofs.ending.put_cells.Goals as goal

pub loop-address-preserved : goal.loop-address-preserved
loop-address-preserved g c =
    let written = rw c.value_of_cell.ensures at c.put_cell.ensures in
    writes_number (cell_lines c.args.blocks.now.config c.args.blocks.now.machine) c.loop-address.address c.loop-address.invariant written
