use Rattle.ultra_io.proofs.Writing.{◌then◌}
use Rattle.ultra_asm.proofs.canonical.put_pc.Goals as goal

pub returns : goal.returns
returns g c = c.put_label_line.ensures then c.put_line.ensures
