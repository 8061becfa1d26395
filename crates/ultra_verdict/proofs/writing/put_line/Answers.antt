use Rattle.ultra_io.proofs.Writing.{◌then◌}
use Rattle.ultra_verdict.proofs.writing.put_line.Goals as goal

pub returns : goal.returns
returns g c = c.put_words.ensures then c.put.ensures
