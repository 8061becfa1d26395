use Rattle.ultra_io.proofs.Writing.{◌then◌}
use Rattle.ultra_list.proofs.writing.put_operation.Goals as goal

pub returns-in-Load : goal.returns-in-Load
returns-in-Load g c = rw c.in-Load.is (c.put.ensures then c.put_number.ensures)
