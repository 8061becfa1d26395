use Rattle.std.proofs.Common.{refl}
use Rattle.ultra_requests.specs.EventLines.{stop_line}
use Rattle.ultra_trace_text.proofs.Yielded.{writes_all, writes_next}
use Rattle.ultra_requests.proofs.cycle.put_stops.Goals as goal

pub loop-stop-preserved : goal.loop-stop-preserved
loop-stop-preserved g c = writes_next (stop_line c.args.cycle) _ _ _ c.loop-stop-test.true c.loop-stop.invariant c.put_stop.ensures

pub returns : goal.returns
returns g c = writes_all (stop_line c.args.cycle) _ _ refl c.loop-stop-test.false c.loop-stop.invariant
