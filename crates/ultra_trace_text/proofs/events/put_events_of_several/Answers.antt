use Rattle.ultra_io.proofs.Writing.{◌then◌}
use Rattle.ultra_trace_text.proofs.Yielded.{all_written, none_written, one_more}
use Rattle.ultra_trace_text.proofs.events.put_events_of_several.Goals as goal

pub loop-event-preserved : goal.loop-event-preserved
loop-event-preserved g c = one_more c.loop-event.invariant (rw c.in-Some.is at c.next.ensures.steps) c.put_got.ensures

pub loop-event-2-preserved : goal.loop-event-2-preserved
loop-event-2-preserved g c = one_more c.loop-event-2.invariant (rw c.in-Some-event.is at c.next-in-loop-event-2.ensures.steps) c.put_act.ensures

pub loop-stop-preserved : goal.loop-stop-preserved
loop-stop-preserved g c = one_more c.loop-stop.invariant (rw c.in-Some-stop.is at c.next-in-loop-stop.ensures.steps) c.put_stop.ensures

pub returns : goal.returns
returns g c =
    all_written c.loop-event.invariant (rw c.in-None.is at c.next.ensures.steps).0
    then all_written c.loop-event-2.invariant (rw c.in-None-event.is at c.next-in-loop-event-2.ensures.steps).0
    then all_written c.loop-stop.invariant (rw c.in-None-stop.is at c.next-in-loop-stop.ensures.steps).0

pub loop-event-init : goal.loop-event-init
loop-event-init g c = none_written _ (rw c.into_iter-event-iterator.ensures.into_iter_gives c.events-event-items.ensures)
