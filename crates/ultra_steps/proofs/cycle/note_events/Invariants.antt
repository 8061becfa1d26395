use Rattle.std.proofs.Common.{◌≡◌, vec_capacity}
use Rattle.ultra_requests.proofs.Alongs.{IsAlong}
use Rattle.ultra_steps.proofs.cycle.note_events.Given as goal

abbrev pub invariant-loop-event : goal.invariant-loop-event
invariant-loop-event l = record {
  along : IsAlong l.cycle l.initial.table.rows.items l.events l.event-index l.table.rows.items;
  capacity : vec_capacity l.table.rows ≡ vec_capacity l.initial.table.rows;
}
