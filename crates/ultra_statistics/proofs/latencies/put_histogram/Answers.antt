use Rattle.ultra_io.proofs.Writing.{◌then◌}
use Rattle.ultra_statistics.proofs.latencies.put_histogram.Goals as goal

pub returns : goal.returns
returns g c = c.put.ensures then c.put_bars.ensures
