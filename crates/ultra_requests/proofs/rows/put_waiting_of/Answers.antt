use Rattle.std.proofs.Common.{refl}
use Rattle.ultra_requests.specs.Along.{waiting_line}
use Rattle.ultra_trace_text.proofs.Yielded.{writes_all, writes_next}
use Rattle.ultra_requests.proofs.rows.put_waiting_of.Goals as goal

pub loop-request-preserved : goal.loop-request-preserved
loop-request-preserved g c = writes_next (waiting_line c.args.pe) _ _ _ c.loop-request-test.true c.loop-request.invariant c.put_waiting_row.ensures

pub returns : goal.returns
returns g c = writes_all (waiting_line c.args.pe) _ _ refl c.loop-request-test.false c.loop-request.invariant
