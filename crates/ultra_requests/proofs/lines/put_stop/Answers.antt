use Rattle.ultra_io.proofs.Writing.{◌then◌}
use Rattle.ultra_requests.proofs.lines.put_stop.Goals as goal

pub returns : goal.returns
returns g c = c.begin_line-at.ensures.goes_on then c.write_number-at.ensures.goes_on then c.write-at.ensures.goes_on then c.write_fault-at.ensures.goes_on then c.end_line.ensures
