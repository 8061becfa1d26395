use Rattle.ultra_io.specs.TextBuffer.{Writes}
use Rattle.ultra_model.specs.Trace.{by_number, pe_lines}
use Rattle.ultra_trace_text.proofs.ending.put_processors.Given as goal

abbrev pub invariant-loop-pe : goal.invariant-loop-pe
invariant-loop-pe g l = Writes g.S.Sink.taken g.S.Sink.failures (by_number l.pe (pe_lines l.blocks.machine)) l.initial.buffer l.buffer
