use Rattle.std.proofs.Common.{◌∙◌, refl}
use Rattle.ultra_requests.specs.Along.{row_at}
use Rattle.ultra_requests.proofs.Alongs.{begins_along, place_along, goes_along, ends_along, none_along, more_along, all_along}
use Rattle.ultra_requests.proofs.cycle.put_answers.Goals as goal

pub loop-event-init : goal.loop-event-init
loop-event-init g c = record {
  along = begins_along c.args.cycle c.args.table.now.rows.items c.args.events.now c.requires.places;
  written = none_along row_at c.args.cycle c.args.table.now.rows.items c.args.events.now c.args.buffer.now;
  capacity = refl;
}

pub note-answered-requires : goal.note-answered-requires
note-answered-requires g c = place_along c.loop-event.invariant.along _ c.loop-event-test.true

pub loop-event-preserved : goal.loop-event-preserved
loop-event-preserved g c =
    let one = rw c.note-answered.ensures.answered at c.put_answered.ensures in
    record {
      along = goes_along c.loop-event.invariant.along _ c.loop-event-test.true _ c.note-answered.ensures.rows;
      written = more_along row_at c.args.cycle _ _ c.loop-event.invariant.written _ c.loop-event-test.true _ c.note-answered.ensures.rows one;
      capacity = c.note-answered.ensures.capacity ∙ c.loop-event.invariant.capacity;
    }

pub returns-clause-rows : goal.returns-clause-rows
returns-clause-rows g c = ends_along c.loop-event.invariant.along c.loop-event-test.false

pub returns-clause-writes : goal.returns-clause-writes
returns-clause-writes g c = all_along row_at c.args.cycle _ _ c.loop-event.invariant.written c.loop-event-test.false
