use Rattle.ultra_io.specs.TextBuffer.{Writes}
use Rattle.ultra_requests.specs.Along.{waiting_all}
use Rattle.ultra_requests.proofs.rows.put_waiting.Given as goal

abbrev pub invariant-loop-pe : goal.invariant-loop-pe
invariant-loop-pe g l = Writes g.S.Sink.taken g.S.Sink.failures (waiting_all l.pe l.table.rows.items) l.initial.buffer l.buffer
