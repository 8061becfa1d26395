use Rattle.std.proofs.Common.{◌≡◌, drop, vec_capacity}
use Rattle.ultra_latency.specs.Open.{rows_after, HavePlaces}
use Rattle.ultra_statistics.proofs.latencies.pass_over.Given as goal

abbrev pub invariant-loop-event : goal.invariant-loop-event
invariant-loop-event l =
    let now = l.table.rows.items in
    let rest = drop l.event-index l.events in
    record {
      rows : rows_after l.cycle l.initial.table.rows.items l.events ≡ rows_after l.cycle now rest;
      places : HavePlaces l.cycle now rest;
      capacity : vec_capacity l.table.rows ≡ vec_capacity l.initial.table.rows;
    }
