use Rattle.ultra_io.proofs.Writing.{◌then◌}
use Rattle.ultra_requests.proofs.lines.put_answer.Goals as goal

pub returns : goal.returns
returns g c = rw (← c.open_number-number.ensures) (c.begin_line-at.ensures.goes_on then c.write_named-at.ensures.goes_on then c.write-at.ensures.goes_on then c.write_reply-at.ensures.goes_on then c.end_line.ensures)
