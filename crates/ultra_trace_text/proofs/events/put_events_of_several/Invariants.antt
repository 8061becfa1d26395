use Rattle.ultra_block.specs.State.{events_left, stops_left}
use Rattle.ultra_model.specs.Trace.{got_line, act_line, fault_line}
use Rattle.ultra_trace_text.proofs.Yielded.{AreWritten}
use Rattle.ultra_trace_text.proofs.events.put_events_of_several.Given as goal

abbrev pub invariant-loop-event : goal.invariant-loop-event
invariant-loop-event g l =
    AreWritten g.S.Sink.taken g.S.Sink.failures got_line l.blocks.machine.events l.yielded (events_left l.event-iterator) l.initial.buffer l.buffer

abbrev pub invariant-loop-event-2 : goal.invariant-loop-event-2
invariant-loop-event-2 g l =
    AreWritten g.S.Sink.taken g.S.Sink.failures act_line l.blocks.machine.events l.yielded (events_left l.event-iterator) l.initial.buffer l.buffer

abbrev pub invariant-loop-stop : goal.invariant-loop-stop
invariant-loop-stop g l =
    AreWritten g.S.Sink.taken g.S.Sink.failures fault_line l.blocks.machine.stops l.yielded (stops_left l.stop-iterator) l.initial.buffer l.buffer
