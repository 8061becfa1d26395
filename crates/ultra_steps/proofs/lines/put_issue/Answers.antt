use Rattle.ultra_io.proofs.Writing.{◌then◌, ◌moved◌}
use Rattle.ultra_steps.proofs.lines.put_issue.Goals as goal

pub returns-in-Some : goal.returns-in-Some
returns-in-Some g c = rw c.in-Some.is (c.begin-at.ensures.goes_on then c.write-at.ensures.goes_on then c.write_named-at.ensures.goes_on then c.write-at-in-Some.ensures.goes_on then c.write_op-at.ensures.goes_on moved c.end.ensures)
