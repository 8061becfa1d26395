use Rattle.ultra_model.specs.Trace.{cycle_text}
use Rattle.ultra_io.proofs.Writing.{◌then◌}
use Rattle.ultra_trace_text.proofs.cycle.put_cycle.Goals as goal

pub returns : goal.returns
unfolding cycle_text
returns g c = c.put_cycle_events.ensures then c.put_state.ensures
