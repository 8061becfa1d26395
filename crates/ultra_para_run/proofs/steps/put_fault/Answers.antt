use Rattle.ultra_io.proofs.Writing.{◌then◌}
use Rattle.ultra_para_run.proofs.steps.put_fault.Goals as goal

pub returns : goal.returns
returns g c = c.put.ensures then c.put_number.ensures then c.put-2.ensures then c.put_fault_name.ensures then c.put-3.ensures
