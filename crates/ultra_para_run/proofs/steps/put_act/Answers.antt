use Rattle.ultra_io.proofs.Writing.{◌then◌}
use Rattle.ultra_para_run.proofs.steps.put_act.Goals as goal

pub returns : goal.returns
returns g c = c.put_number.ensures then c.put.ensures then c.put_count.ensures then c.put-2.ensures then c.put_operation.ensures then c.put-3.ensures then c.put_reply.ensures then c.put-4.ensures
