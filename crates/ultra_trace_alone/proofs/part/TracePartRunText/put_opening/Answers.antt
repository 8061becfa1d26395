use Rattle.ultra_io.proofs.Writing.{◌then◌}
use Rattle.ultra_trace_alone.proofs.part.TracePartRunText.put_opening.Goals as goal

pub returns : goal.returns
returns g c = c.put.ensures then c.put_part_line.ensures
