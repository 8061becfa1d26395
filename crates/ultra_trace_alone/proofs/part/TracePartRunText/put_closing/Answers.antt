use Rattle.ultra_model.specs.Trace.{last_state}
use Rattle.ultra_trace_alone.proofs.part.TracePartRunText.put_closing.Goals as goal

pub returns : goal.returns
unfolding last_state
returns g c = rw c.requires.end.state at c.put_end.ensures
