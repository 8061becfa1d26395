use Rattle.ultra_io.proofs.Writing.{◌then◌}
use Rattle.ultra_trace_text.proofs.cycle.put_cycle_events.Goals as goal

pub returns : goal.returns
returns g c = rw c.done.ensures at c.put_number.ensures then c.put_events.ensures
