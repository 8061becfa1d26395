use Rattle.std.proofs.Common.{ℕ, List, ◌≡◌, ◌+◌, ◌≤◌, ◌++◌, drop, length, vec_capacity}
use Rattle.ultra_latency.specs.Open.{rows_after, latencies_along, HavePlaces}
use Rattle.ultra_statistics.specs.Latencies.{answered_in, count_of, AreByLatency}
use Rattle.ultra_statistics.proofs.latencies.count_latencies.Given as goal

abbrev pub invariant-loop-event : goal.invariant-loop-event
invariant-loop-event l =
    let first = l.initial.table.rows.items in
    let now = l.table.rows.items in
    let rest = drop l.event-index l.events in
    record {
      rows : rows_after l.cycle first l.events ≡ rows_after l.cycle now rest;
      places : HavePlaces l.cycle now rest;
      shown : (done : List ℕ) × (latencies_along l.cycle first l.events ≡ done ++ latencies_along l.cycle now rest) × (length done ≤ l.event-index) × ((k : ℕ) → count_of l.counts.items k ≡ count_of l.initial.counts.items k + answered_in done k);
      by_latency : AreByLatency 0 l.counts.items;
      capacity : vec_capacity l.table.rows ≡ vec_capacity l.initial.table.rows;
    }
