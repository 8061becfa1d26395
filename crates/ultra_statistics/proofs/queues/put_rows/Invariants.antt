use Rattle.std.specs.Prelude.{◌^◌}
use Rattle.ultra_io.specs.TextBuffer.{Writes}
use Rattle.ultra_model.specs.Trace.{by_number}
use Rattle.ultra_statistics.specs.Rows.{counts_row}
use Rattle.ultra_statistics.proofs.queues.put_rows.Given as goal

abbrev pub invariant-loop-stage : goal.invariant-loop-stage
invariant-loop-stage g l = Writes g.S.Sink.taken g.S.Sink.failures (by_number l.stage (λ s. by_number (2 ^ l.config.stages) (counts_row l.table l.end s))) l.initial.buffer l.buffer
