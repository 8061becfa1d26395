use Rattle.ultra_model.specs.Trace.{end_text}
use Rattle.ultra_io.proofs.Writing.{◌then◌}
use Rattle.ultra_trace_text.proofs.ending.put_end.Goals as goal

pub returns : goal.returns
unfolding end_text
returns g c =
    rw (← c.is_quiet.ensures)
    (c.put_ending.ensures then c.put.ensures then c.put_cells.ensures then c.put_processors.ensures)
