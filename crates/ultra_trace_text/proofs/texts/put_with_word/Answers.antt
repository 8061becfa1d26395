use Rattle.ultra_io.proofs.Writing.{◌then◌}
use Rattle.ultra_trace_text.proofs.texts.put_with_word.Goals as goal

pub returns : goal.returns
returns g c = c.put.ensures then c.put_number.ensures
