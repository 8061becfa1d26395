use Rattle.std.specs.Prelude.{slice_index}
use Rattle.ultra_io.specs.TextBuffer.{Writes}
use Rattle.ultra_model.specs.Trace.{by_number, register_text}
use Rattle.ultra_trace_text.proofs.ending.put_registers.Given as goal

abbrev pub invariant-loop-index : goal.invariant-loop-index
invariant-loop-index g l = Writes g.S.Sink.taken g.S.Sink.failures (by_number l.index (λ i. register_text i (slice_index l.processor.core.registers i))) l.initial.buffer l.buffer
