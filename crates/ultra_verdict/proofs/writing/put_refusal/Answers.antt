use Rattle.ultra_io.proofs.Writing.{◌then◌}
use Rattle.ultra_verdict.proofs.writing.put_refusal.Goals as goal

pub returns : goal.returns
returns g c = c.put.ensures then c.put_count.ensures then c.put-2.ensures then c.put_entry.ensures
