use Rattle.ultra_io.proofs.Writing.{◌then◌}
use Rattle.ultra_verdict.proofs.writing.put_difference.Goals as goal

pub returns : goal.returns
returns g c = c.put.ensures then c.put_count.ensures then c.put-2.ensures then c.put_number.ensures then c.put-3.ensures then c.put_number-2.ensures
