use Rattle.ultra_io.proofs.Writing.{◌then◌}
use Rattle.ultra_requests.proofs.lines.put_event.Goals as goal

pub returns-in-Combined : goal.returns-in-Combined
returns-in-Combined g c =
    let first = c.begin_line-at.ensures.goes_on then c.write_number-at.ensures.goes_on then c.write-at.ensures.goes_on then c.write_number-at-in-Combined.ensures.goes_on then c.write-at-in-Combined.ensures.goes_on then c.write_named-at.ensures.goes_on in
    let last = first then c.write_order-at.ensures.goes_on then c.write_named-at-in-Combined.ensures.goes_on in
    rw c.in-Combined.is (rw (← c.open_number-old_number.ensures, ← c.open_number-new_number.ensures) (last then c.end_line.ensures))
