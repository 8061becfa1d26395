use Rattle.std.proofs.Common.{◌∙◌, refl}
use Rattle.ultra_requests.proofs.Alongs.{begins_along, place_along, goes_along, ends_along}
use Rattle.ultra_steps.proofs.cycle.note_events.Goals as goal

pub loop-event-init : goal.loop-event-init
loop-event-init c = record {
  along = begins_along c.args.cycle c.args.table.now.rows.items c.args.events.now c.requires;
  capacity = refl;
}

pub note-requires : goal.note-requires
note-requires c = place_along c.loop-event.invariant.along _ c.loop-event-test.true

pub loop-event-preserved : goal.loop-event-preserved
loop-event-preserved c = record {
  along = goes_along c.loop-event.invariant.along _ c.loop-event-test.true _ c.note.ensures.rows;
  capacity = c.note.ensures.capacity ∙ c.loop-event.invariant.capacity;
}

pub returns-clause-rows : goal.returns-clause-rows
returns-clause-rows c = ends_along c.loop-event.invariant.along c.loop-event-test.false
