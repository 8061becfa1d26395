use Rattle.ultra_io.proofs.Writing.{◌then◌, ◌moved◌}
use Rattle.ultra_asm.proofs.canonical.put_next.Goals as goal

pub returns : goal.returns
returns g c = c.begin-at.ensures.goes_on then c.write-at.ensures.goes_on then c.write_operand-at.ensures.goes_on moved c.end.ensures
