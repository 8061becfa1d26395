use Rattle.std.proofs.Common.{◌≡◌, vec_capacity}
use Rattle.ultra_requests.proofs.Alongs.{IsAlong, IsWritten}
use Rattle.ultra_requests.specs.Along.{row_at}
use Rattle.ultra_requests.proofs.cycle.put_answers.Given as goal

abbrev pub invariant-loop-event : goal.invariant-loop-event
invariant-loop-event g l = record {
  along : IsAlong l.cycle l.initial.table.rows.items l.events l.event-index l.table.rows.items;
  written : IsWritten row_at l.cycle g.S.Sink.taken g.S.Sink.failures l.initial.table.rows.items l.events l.event-index l.table.rows.items l.initial.buffer l.buffer;
  capacity : vec_capacity l.table.rows ≡ vec_capacity l.initial.table.rows;
}
