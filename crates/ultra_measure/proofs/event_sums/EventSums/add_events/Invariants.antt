use Rattle.std.proofs.Common.{◌^◌, take}
use Rattle.ultra_measure.specs.{Counts.AreWithEvents, ElementStates.AreAnswered}
use Rattle.ultra_measure.proofs.event_sums.EventSums.add_events.Given as goal

abbrev pub invariant-loop-event : goal.invariant-loop-event
invariant-loop-event l = AreWithEvents (take l.event-index l.events) l.initial.self l.self × AreAnswered (2 ^ l.fn.net) (take l.event-index l.events) l.answered
