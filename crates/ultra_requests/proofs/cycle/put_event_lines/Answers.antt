use Rattle.std.proofs.Common.{◌∙◌, refl, sym, subst, drop, ◌+◌}
use Rattle.ultra_requests.specs.Along.{event_line_at, HaveRows}
use Rattle.ultra_requests.proofs.Alongs.{begins_along, place_along, goes_along, ends_along, none_along, more_along, all_along, next_have}
use Rattle.ultra_requests.proofs.cycle.put_event_lines.Goals as goal

pub loop-event-init : goal.loop-event-init
loop-event-init g c = record {
  along = begins_along c.args.cycle c.args.table.now.rows.items c.args.events.now c.requires.places;
  written = none_along event_line_at c.args.cycle c.args.table.now.rows.items c.args.events.now c.args.buffer.now;
  have = c.requires.rows;
  capacity = refl;
}

pub put_event-requires : goal.put_event-requires
put_event-requires g c = (next_have c.args.cycle c.loop-event.table.rows.items c.args.events.now c.loop-event.event-index _ c.loop-event-test.true c.loop-event.invariant.have).0

pub note-requires : goal.note-requires
note-requires g c = place_along c.loop-event.invariant.along _ c.loop-event-test.true

pub loop-event-preserved : goal.loop-event-preserved
loop-event-preserved g c =
    let next = next_have c.args.cycle c.loop-event.table.rows.items c.args.events.now c.loop-event.event-index _ c.loop-event-test.true c.loop-event.invariant.have in
    record {
      along = goes_along c.loop-event.invariant.along _ c.loop-event-test.true _ c.note.ensures.rows;
      written = more_along event_line_at c.args.cycle _ _ c.loop-event.invariant.written _ c.loop-event-test.true _ c.note.ensures.rows c.put_event.ensures;
      have = subst (λ rows. HaveRows c.args.cycle rows (drop (c.loop-event.event-index + 1) c.args.events.now)) (sym c.note.ensures.rows) next.1;
      capacity = c.note.ensures.capacity ∙ c.loop-event.invariant.capacity;
    }

pub returns-clause-rows : goal.returns-clause-rows
returns-clause-rows g c = ends_along c.loop-event.invariant.along c.loop-event-test.false

pub returns-clause-writes : goal.returns-clause-writes
returns-clause-writes g c = all_along event_line_at c.args.cycle _ _ c.loop-event.invariant.written c.loop-event-test.false
