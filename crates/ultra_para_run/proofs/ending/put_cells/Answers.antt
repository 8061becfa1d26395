use Rattle.std.specs.Prelude.{slice_index}
use Rattle.ultra_model.specs.Trace.{cell_line}
use Rattle.ultra_trace_text.proofs.Numbered.{writes_number}
use Rattle.ultra_para_run.proofs.ending.put_cells.Goals as goal

pub loop-address-preserved : goal.loop-address-preserved
loop-address-preserved g c = writes_number (λ a. cell_line a (slice_index c.args.cells.now a)) c.loop-address.address c.loop-address.invariant c.put_cell.ensures
