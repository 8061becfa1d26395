use Rattle.ultra_io.specs.TextBuffer.{Writes}
use Rattle.ultra_model.specs.Trace.{by_number}
use Rattle.ultra_statistics.specs.Rows.{counts_row}
use Rattle.ultra_statistics.proofs.queues.put_stage.Given as goal

abbrev pub invariant-loop-position : goal.invariant-loop-position
invariant-loop-position g l = Writes g.S.Sink.taken g.S.Sink.failures (by_number l.position (counts_row l.table l.end l.stage)) l.initial.buffer l.buffer
