use Rattle.ultra_io.proofs.Writing.{◌then◌}
use Rattle.ultra_statistics.proofs.rows.put_numbers.Goals as goal

pub returns : goal.returns
returns g c = c.put_number.ensures then c.put_others.ensures then c.put.ensures
