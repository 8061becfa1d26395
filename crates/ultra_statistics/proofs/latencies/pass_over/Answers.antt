use Rattle.std.proofs.Common.{List, ◌+◌, ◌∙◌, refl, sym, ap, drop, subst}
use Rattle.ultra_latency.specs.{declared.open.OpenRequest.OpenRequest, Open.{rows_after, HavePlaces}}
use Rattle.ultra_latency.proofs.Rows.{next_rows, next_places}
use Rattle.ultra_statistics.proofs.latencies.pass_over.Goals as goal

pub loop-event-init : goal.loop-event-init
loop-event-init c = record { rows = refl; places = c.requires; capacity = refl }

pub note-requires : goal.note-requires
note-requires c = (next_places c.args.cycle c.loop-event.table.rows.items c.args.events.now c.loop-event.event-index _ c.loop-event-test.true c.loop-event.invariant.places).0

pub loop-event-preserved : goal.loop-event-preserved
loop-event-preserved c =
    let are = c.loop-event.invariant in
    let cycle = c.args.cycle in
    let rows = c.loop-event.table.rows.items in
    let es = c.args.events.now in
    let at = c.loop-event.event-index in
    let here = c.loop-event-test.true in
    let same = sym c.note.ensures.rows in
    let rest = drop (at + 1) es in
    record {
      rows = are.rows ∙ next_rows cycle rows es at _ here ∙ ap (λ (r : List (List OpenRequest)). rows_after cycle r rest) same;
      places = subst (λ (r : List (List OpenRequest)). HavePlaces cycle r rest) same (next_places cycle rows es at _ here are.places).1;
      capacity = c.note.ensures.capacity ∙ are.capacity;
    }
