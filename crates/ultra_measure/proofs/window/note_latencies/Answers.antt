use Rattle.std.proofs.Common.{◌∙◌, length, ap, arith}
use Rattle.ultra_model.specs.Machine.{Machine}
use Rattle.ultra_measure.proofs.Waiting.{latencies_go_on, places_here, rows_here, shown_here}
use Rattle.ultra_measure.proofs.window.note_latencies.Goals as goal

pub note_events-requires-clause-places : goal.note_events-requires-clause-places
note_events-requires-clause-places c =
    let b = c.args.blocks.now in
    let law = rw c.config.ensures at (c.law_of_open_requests.ensures b.program c.args.cycle) in
    places_here b.config b.program c.args.cycle law _ (c.events_of_one.ensures ∙ ap (λ (m : Machine). m.events) c.requires.run) _ c.requires.table.rows

pub note_events-requires-clause-room : goal.note_events-requires-clause-room
note_events-requires-clause-room c =
    let b = c.args.blocks.now in
    let law = rw c.config-2.ensures at (c.law_of_few_events.ensures b.program c.args.cycle) in
    omega (arith, law.events, ap (λ (m : Machine). length m.events) c.requires.run, ap length c.events_of_one.ensures, c.requires.kept.few, c.requires.early)

pub returns-clause-kept : goal.returns-clause-kept
returns-clause-kept c =
    let b = c.args.blocks.now in
    let law = rw c.config.ensures at (c.law_of_open_requests.ensures b.program c.args.cycle) in
    let shown = shown_here b.config b.program c.args.cycle law _ (c.events_of_one.ensures ∙ ap (λ (m : Machine). m.events) c.requires.run) _ c.requires.table.rows in
    latencies_go_on b.config b.program c.args.from c.args.cycle c.requires.order c.args.latencies.now _ _ c.requires.kept shown law.few c.note_events.ensures.summary c.note_events.ensures.small

pub returns-clause-table : goal.returns-clause-table
returns-clause-table c =
    let b = c.args.blocks.now in
    let law = rw c.config.ensures at (c.law_of_open_requests.ensures b.program c.args.cycle) in
    record {
      rows = c.note_events.ensures.rows ∙ rows_here b.config b.program c.args.cycle law _ (c.events_of_one.ensures ∙ ap (λ (m : Machine). m.events) c.requires.run) _ c.requires.table.rows;
      capacity = c.note_events.ensures.capacity ∙ c.requires.table.capacity;
    }
