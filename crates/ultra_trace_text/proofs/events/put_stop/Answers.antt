use Rattle.ultra_io.proofs.Writing.{◌then◌}
use Rattle.ultra_trace_text.proofs.events.put_stop.Goals as goal

pub returns : goal.returns
returns g c = c.put_with_word.ensures then c.put.ensures then c.put_fault.ensures then c.put-2.ensures
