use Rattle.std.proofs.Common.{ℕ, List, [], ◌≡◌, ◌+◌, ◌++◌, ◌∙◌, refl, sym, ap, drop, subst, append_assoc, arith, rules}
use Rattle.std.specs.Prelude.{option_to_list}
use Rattle.ultra_latency.specs.{declared.open.OpenRequest.OpenRequest, Open.{rows_after, latencies_along, since, HavePlaces}, Summary.AreSummedUp}
use Rattle.ultra_latency.proofs.{Rows.{next_rows, next_places, next_shown}, Summaries.same_summed_up}
use Rattle.ultra_latency.proofs.open.OpenTable.note_events.Goals as goal

pub loop-event-init : goal.loop-event-init
loop-event-init c = record {
  rows = refl;
  places = c.requires.places;
  summary = ([], refl, λ xs are. same_summed_up c.args.latencies.now xs are);
  small = c.requires.small;
  few = omega arith;
  capacity = refl;
}

pub note-answered-requires : goal.note-answered-requires
note-answered-requires c = (next_places c.args.cycle c.loop-event.self.rows.items c.args.events.now c.loop-event.event-index _ c.loop-event-test.true c.loop-event.invariant.places).0

pub loop-event-preserved : goal.loop-event-preserved
loop-event-preserved c =
    let are = c.loop-event.invariant in
    let cycle = c.args.cycle in
    let rows = c.loop-event.self.rows.items in
    let es = c.args.events.now in
    let at = c.loop-event.event-index in
    let here = c.loop-event-test.true in
    let same = sym c.note-answered.ensures.rows in
    let rest = drop (at + 1) es in
    let one = c.add.ensures in
    let o = option_to_list c.latency_of-latency.result in
    let done = are.summary.0 in
    let behind = next_shown cycle rows es at _ here _ (c.latency_of-latency.ensures.latency ∙ ap (since cycle) c.note-answered.ensures.answered) _ c.note-answered.ensures.rows in
    record {
      rows = are.rows ∙ next_rows cycle rows es at _ here ∙ ap (λ (r : List (List OpenRequest)). rows_after cycle r rest) same;
      places = subst (λ (r : List (List OpenRequest)). HavePlaces cycle r rest) same (next_places cycle rows es at _ here are.places).1;
      summary = (
        done ++ o,
        are.summary.1 ∙ ap (λ xs. done ++ xs) behind ∙ sym (append_assoc done o _),
        λ xs known. subst (λ ys. AreSummedUp ys c.add.new.self) (append_assoc xs done o) (one.summary (xs ++ done) (are.summary.2 xs known)),
      );
      small = one.small;
      few = omega (arith, are.few, one.one);
      capacity = c.note-answered.ensures.capacity ∙ are.capacity;
    }
