use Rattle.ultra_io.proofs.Writing.{◌then◌, ◌moved◌}
use Rattle.ultra_steps.proofs.lines.put_reply.Goals as goal

pub returns-in-Some : goal.returns-in-Some
returns-in-Some g c = rw c.in-Some.is (c.begin_line-at.ensures.goes_on then c.write_setting-at.ensures.goes_on then c.write-at.ensures.goes_on then c.write_named-at.ensures.goes_on then c.write-end.ensures.goes_on moved c.end.ensures)
