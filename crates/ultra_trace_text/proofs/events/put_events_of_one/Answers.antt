use Rattle.ultra_io.proofs.Writing.{◌then◌}
use Rattle.ultra_model.specs.Trace.{got_line, act_line, fault_line}
use Rattle.ultra_trace_text.proofs.Yielded.{writes_all, writes_next}
use Rattle.ultra_trace_text.proofs.events.put_events_of_one.Goals as goal

pub loop-event-preserved : goal.loop-event-preserved
loop-event-preserved g c = writes_next got_line _ _ _ c.loop-event-test.true c.loop-event.invariant c.put_got.ensures

pub loop-event-2-preserved : goal.loop-event-2-preserved
loop-event-2-preserved g c = writes_next act_line _ _ _ c.loop-event-2-test.true c.loop-event-2.invariant c.put_act.ensures

pub loop-stop-preserved : goal.loop-stop-preserved
loop-stop-preserved g c = writes_next fault_line _ _ _ c.loop-stop-test.true c.loop-stop.invariant c.put_stop.ensures

pub returns : goal.returns
returns g c =
    writes_all got_line _ _ c.events_of_one-event-items.ensures c.loop-event-test.false c.loop-event.invariant
    then writes_all act_line _ _ c.events_of_one-event-items-2.ensures c.loop-event-2-test.false c.loop-event-2.invariant
    then writes_all fault_line _ _ c.stops_of_one-stop-items.ensures c.loop-stop-test.false c.loop-stop.invariant
