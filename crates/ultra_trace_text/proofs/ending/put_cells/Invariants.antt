use Rattle.ultra_io.specs.TextBuffer.{Writes}
use Rattle.ultra_model.specs.Trace.{by_number, cell_lines}
use Rattle.ultra_trace_text.proofs.ending.put_cells.Given as goal

abbrev pub invariant-loop-address : goal.invariant-loop-address
invariant-loop-address g l = Writes g.S.Sink.taken g.S.Sink.failures (by_number l.address (cell_lines l.blocks.config l.blocks.machine)) l.initial.buffer l.buffer
