use Rattle.ultra_io.proofs.Writing.{◌then◌}
use Rattle.ultra_requests.proofs.lines.put_act.Goals as goal

pub returns : goal.returns
returns g c =
    let first = c.begin_line-at.ensures.goes_on then c.write_number-at.ensures.goes_on then c.write-at.ensures.goes_on then c.write_named-at.ensures.goes_on then c.write-at-2.ensures.goes_on then c.write_op-at.ensures.goes_on in
    let last = first then c.write-at-3.ensures.goes_on then c.write_reply-at.ensures.goes_on then c.write-at-4.ensures.goes_on then c.write_number-at-2.ensures.goes_on in
    rw (← c.open_number-number.ensures) (last then c.end_line.ensures)
