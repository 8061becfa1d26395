use Rattle.std.proofs.Common.{refl}
use Rattle.ultra_statistics.specs.Latencies.{count_row}
use Rattle.ultra_trace_text.proofs.Yielded.{writes_all, writes_next}
use Rattle.ultra_statistics.proofs.latencies.put_bars.Goals as goal

pub loop-count-preserved : goal.loop-count-preserved
loop-count-preserved g c = writes_next count_row _ _ _ c.loop-count-test.true c.loop-count.invariant c.put_numbers.ensures

pub returns : goal.returns
returns g c = writes_all count_row _ _ refl c.loop-count-test.false c.loop-count.invariant
