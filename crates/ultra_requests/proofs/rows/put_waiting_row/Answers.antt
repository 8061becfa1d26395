use Rattle.ultra_io.proofs.Writing.{◌then◌}
use Rattle.ultra_requests.proofs.rows.put_waiting_row.Goals as goal

pub returns : goal.returns
returns g c = c.begin_row-at.ensures.goes_on then c.write-at.ensures.goes_on then c.end_line.ensures
