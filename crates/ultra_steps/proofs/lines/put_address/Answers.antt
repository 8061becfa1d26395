use Rattle.ultra_io.proofs.Writing.{◌then◌, ◌moved◌}
use Rattle.ultra_steps.proofs.lines.put_address.Goals as goal

pub returns-in-AddressOutOfRange : goal.returns-in-AddressOutOfRange
returns-in-AddressOutOfRange g c = rw (c.in-Some.is, c.in-AddressOutOfRange.is) (c.begin-at.ensures.goes_on then c.write-at.ensures.goes_on then c.write_number-at.ensures.goes_on then c.write-at-in-Some.ensures.goes_on moved c.end.ensures then c.put.ensures)

pub returns-in-PastEnd : goal.returns-in-PastEnd
returns-in-PastEnd g c = rw (c.in-Some.is, c.in-PastEnd.is) (c.begin-at.ensures.goes_on then c.write-at.ensures.goes_on then c.write_number-at.ensures.goes_on then c.write-at-in-Some.ensures.goes_on moved c.end.ensures then c.put-in-PastEnd.ensures)
