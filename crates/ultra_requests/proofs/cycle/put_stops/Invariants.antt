use Rattle.std.proofs.Common.{take}
use Rattle.std.specs.List.{flat_map}
use Rattle.ultra_io.specs.TextBuffer.{Writes}
use Rattle.ultra_requests.specs.EventLines.{stop_line}
use Rattle.ultra_requests.proofs.cycle.put_stops.Given as goal

abbrev pub invariant-loop-stop : goal.invariant-loop-stop
invariant-loop-stop g l = Writes g.S.Sink.taken g.S.Sink.failures (flat_map (stop_line l.cycle) (take l.stop-index l.stops)) l.initial.buffer l.buffer
