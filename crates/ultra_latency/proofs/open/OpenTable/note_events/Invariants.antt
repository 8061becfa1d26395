use Rattle.std.proofs.Common.{ℕ, List, ◌≡◌, ◌+◌, ◌≤◌, ◌++◌, drop, vec_capacity}
use Rattle.ultra_latency.specs.{Open.{rows_after, latencies_along, HavePlaces}, Summary.{AreSummedUp, AreSmall}}
use Rattle.ultra_latency.proofs.open.OpenTable.note_events.Given as goal

abbrev pub invariant-loop-event : goal.invariant-loop-event
invariant-loop-event l =
    let first = l.initial.self.rows.items in
    let now = l.self.rows.items in
    let rest = drop l.event-index l.events in
    record {
      rows : rows_after l.cycle first l.events ≡ rows_after l.cycle now rest;
      places : HavePlaces l.cycle now rest;
      summary : (done : List ℕ) × (latencies_along l.cycle first l.events ≡ done ++ latencies_along l.cycle now rest) × ((xs : List ℕ) → AreSummedUp xs l.initial.latencies → AreSummedUp (xs ++ done) l.latencies);
      small : AreSmall l.latencies;
      few : l.latencies.count ≤ l.initial.latencies.count + l.event-index;
      capacity : vec_capacity l.self.rows ≡ vec_capacity l.initial.self.rows;
    }
