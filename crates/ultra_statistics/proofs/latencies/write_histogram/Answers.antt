use Rattle.std.proofs.Common.{rules}
use Rattle.ultra_io.proofs.Writing.{finished}
use Rattle.ultra_statistics.proofs.latencies.write_histogram.Goals as goal

pub returns : goal.returns
returns g c =
    let gone = finished c.finish.result c.new-buffer.ensures.blank c.put_histogram.ensures c.finish.ensures.writes c.finish.ensures.ok c.finish.ensures.err in
    search rules
