use Rattle.ultra_io.proofs.Writing.{◌then◌}
use Rattle.ultra_measure.proofs.columns.put_thousandths.Goals as goal

pub returns : goal.returns
returns g c = c.put_count.ensures then c.put.ensures then c.put_count-2.ensures then c.put_count-3.ensures then c.put_count-4.ensures
