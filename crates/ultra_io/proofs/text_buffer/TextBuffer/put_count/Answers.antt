use Rattle.ultra_io.proofs.Writing.{◌then◌, ◌moved◌}
use Rattle.ultra_io.proofs.text_buffer.TextBuffer.put_count.Goals as goal

pub returns : goal.returns
returns g c = c.begin-at.ensures.goes_on then c.write_count-end.ensures.goes_on moved c.end.ensures
