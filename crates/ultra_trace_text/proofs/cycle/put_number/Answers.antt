use Rattle.ultra_io.proofs.Writing.{◌then◌}
use Rattle.ultra_trace_text.proofs.cycle.put_number.Goals as goal

pub returns : goal.returns
returns g c =
    c.begin-at.ensures.goes_on then c.write_with_word-at.ensures.goes_on then c.end_line.ensures
