use Rattle.ultra_io.proofs.Writing.{◌then◌}
use Rattle.ultra_steps.proofs.lines.write_named.Goals as goal

pub returns-clause-goes_on : goal.returns-clause-goes_on
returns-clause-goes_on g c = c.write_number-at.ensures.goes_on then c.write-at.ensures.goes_on then c.write_number-at-2.ensures.goes_on then c.write-at-2.ensures.goes_on then c.write_number.ensures.goes_on
