use Rattle.ultra_requests.proofs.Alongs.{IsAlong, IsWritten}
use Rattle.std.proofs.Common.{◌≡◌, drop, vec_capacity}
use Rattle.ultra_requests.specs.Along.{event_line_at, HaveRows}
use Rattle.ultra_requests.proofs.cycle.put_event_lines.Given as goal

abbrev pub invariant-loop-event : goal.invariant-loop-event
invariant-loop-event g l = record {
  along : IsAlong l.cycle l.initial.table.rows.items l.events l.event-index l.table.rows.items;
  written : IsWritten event_line_at l.cycle g.S.Sink.taken g.S.Sink.failures l.initial.table.rows.items l.events l.event-index l.table.rows.items l.initial.buffer l.buffer;
  have : HaveRows l.cycle l.table.rows.items (drop l.event-index l.events);
  capacity : vec_capacity l.table.rows ≡ vec_capacity l.initial.table.rows;
}
