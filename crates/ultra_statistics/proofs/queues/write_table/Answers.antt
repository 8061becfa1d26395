use Rattle.std.proofs.Common.{rules}
use Rattle.ultra_io.proofs.Writing.{finished}
use Rattle.ultra_statistics.proofs.queues.write_table.Goals as goal

pub returns : goal.returns
returns g c =
    let gone = finished c.finish.result c.new-buffer.ensures.blank c.put_table.ensures c.finish.ensures.writes c.finish.ensures.ok c.finish.ensures.err in
    search rules
