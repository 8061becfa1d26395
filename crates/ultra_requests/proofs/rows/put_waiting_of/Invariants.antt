use Rattle.std.proofs.Common.{take}
use Rattle.ultra_io.specs.TextBuffer.{Writes}
use Rattle.ultra_requests.specs.Along.{waiting_text}
use Rattle.ultra_requests.proofs.rows.put_waiting_of.Given as goal

abbrev pub invariant-loop-request : goal.invariant-loop-request
invariant-loop-request g l = Writes g.S.Sink.taken g.S.Sink.failures (waiting_text l.pe (take l.request-index l.requests)) l.initial.buffer l.buffer
