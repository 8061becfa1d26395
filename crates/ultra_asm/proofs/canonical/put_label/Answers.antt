use Rattle.ultra_io.proofs.Writing.{◌then◌}
use Rattle.ultra_asm.proofs.canonical.put_label.Goals as goal

pub returns : goal.returns
returns g c = c.put.ensures then c.put_count.ensures
