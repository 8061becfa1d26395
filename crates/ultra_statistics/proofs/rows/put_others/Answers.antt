use Rattle.std.proofs.Common.{refl}
use Rattle.ultra_statistics.specs.Queues.{number_behind_comma}
use Rattle.ultra_trace_text.proofs.Yielded.{writes_all, writes_next}
use Rattle.ultra_statistics.proofs.rows.put_others.Goals as goal

pub loop-number-preserved : goal.loop-number-preserved
loop-number-preserved g c = writes_next number_behind_comma _ _ _ c.loop-number-test.true c.loop-number.invariant c.put_next.ensures

pub returns : goal.returns
returns g c = writes_all number_behind_comma _ _ refl c.loop-number-test.false c.loop-number.invariant
