use Rattle.std.proofs.Common.{List, [], ◌+◌, ◌++◌, ◌∙◌, refl, sym, ap, drop, length-append, subst, append_assoc, arith}
use Rattle.ultra_latency.specs.{declared.open.OpenRequest.OpenRequest, Open.{rows_after, latencies_along, since, HavePlaces}}
use Rattle.ultra_latency.proofs.Rows.{next_rows, next_places, next_shown}
use Rattle.ultra_statistics.proofs.Histograms.{answered_append, answered_small, latency_if, since_is, since_one}
use Rattle.ultra_statistics.proofs.latencies.count_latencies.Goals as goal

pub loop-event-init : goal.loop-event-init
loop-event-init c = record {
  rows = refl;
  places = c.requires.places;
  shown = ([], refl, omega arith, λ k. omega arith);
  by_latency = c.requires.by_latency;
  capacity = refl;
}

pub note-answered-requires : goal.note-answered-requires
note-answered-requires c = (next_places c.args.cycle c.loop-event.table.rows.items c.args.events.now c.loop-event.event-index _ c.loop-event-test.true c.loop-event.invariant.places).0

pub count_answer-requires-clause-room : goal.count_answer-requires-clause-room
count_answer-requires-clause-room c l =
    let shown = c.loop-event.invariant.shown in
    omega (arith, c.requires.room l, shown.3 l, answered_small shown.0 l, shown.2, c.loop-event-test.true)

pub loop-event-preserved : goal.loop-event-preserved
loop-event-preserved c =
    let are = c.loop-event.invariant in
    let cycle = c.args.cycle in
    let rows = c.loop-event.table.rows.items in
    let es = c.args.events.now in
    let at = c.loop-event.event-index in
    let here = c.loop-event-test.true in
    let same = sym c.note-answered.ensures.rows in
    let rest = drop (at + 1) es in
    let answered = c.note-answered.result in
    let o = since cycle answered in
    let done = are.shown.0 in
    let behind = next_shown cycle rows es at _ here (latency_if cycle answered) (since_is cycle answered ∙ ap (since cycle) c.note-answered.ensures.answered) _ c.note-answered.ensures.rows ∙ ap (λ xs. xs ++ latencies_along cycle c.note-answered.new.self.rows.items rest) (since_is cycle answered) in
    record {
      rows = are.rows ∙ next_rows cycle rows es at _ here ∙ ap (λ (r : List (List OpenRequest)). rows_after cycle r rest) same;
      places = subst (λ (r : List (List OpenRequest)). HavePlaces cycle r rest) same (next_places cycle rows es at _ here are.places).1;
      shown = (
        done ++ o,
        are.shown.1 ∙ ap (λ xs. done ++ xs) behind ∙ sym (append_assoc done o _),
        omega (arith, length-append done o, since_one cycle answered, are.shown.2),
        λ k. omega (arith, c.in_ok-count_answer.ensures.counts k, are.shown.3 k, answered_append done o k),
      );
      by_latency = c.in_ok-count_answer.ensures.by_latency;
      capacity = c.note-answered.ensures.capacity ∙ are.capacity;
    }
