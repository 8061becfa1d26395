use Rattle.ultra_io.proofs.Writing.{◌then◌}
use Rattle.ultra_asm.proofs.canonical.write_numbered.Goals as goal

pub returns-clause-goes_on : goal.returns-clause-goes_on
returns-clause-goes_on g c = c.write-at.ensures.goes_on then c.write_number.ensures.goes_on
