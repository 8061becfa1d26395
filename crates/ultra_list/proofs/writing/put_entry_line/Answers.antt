use Rattle.ultra_io.proofs.Writing.{◌then◌}
use Rattle.ultra_list.proofs.writing.put_entry_line.Goals as goal

pub returns : goal.returns
returns g c = c.put_entry.ensures then c.put.ensures
