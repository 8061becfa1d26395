use Rattle.std.specs.Prelude.{slice_index}
use Rattle.ultra_io.specs.TextBuffer.{Writes}
use Rattle.ultra_model.specs.Trace.{by_number, cell_line}
use Rattle.ultra_para_run.proofs.ending.put_cells.Given as goal

abbrev pub invariant-loop-address : goal.invariant-loop-address
invariant-loop-address g l = Writes g.S.Sink.taken g.S.Sink.failures (by_number l.address (λ a. cell_line a (slice_index l.cells a))) l.initial.buffer l.buffer
