use Rattle.std.proofs.Common.{take}
use Rattle.std.specs.List.{flat_map}
use Rattle.ultra_io.specs.TextBuffer.{Writes}
use Rattle.ultra_model.specs.Trace.{got_line, act_line, fault_line}
use Rattle.ultra_trace_text.proofs.events.put_events_of_one.Given as goal

abbrev pub invariant-loop-event : goal.invariant-loop-event
invariant-loop-event g l =
    Writes g.S.Sink.taken g.S.Sink.failures (flat_map got_line (take l.event-index l.event-items)) l.initial.buffer l.buffer

abbrev pub invariant-loop-event-2 : goal.invariant-loop-event-2
invariant-loop-event-2 g l =
    Writes g.S.Sink.taken g.S.Sink.failures (flat_map act_line (take l.event-index l.event-items)) l.initial.buffer l.buffer

abbrev pub invariant-loop-stop : goal.invariant-loop-stop
invariant-loop-stop g l =
    Writes g.S.Sink.taken g.S.Sink.failures (flat_map fault_line (take l.stop-index l.stop-items)) l.initial.buffer l.buffer
