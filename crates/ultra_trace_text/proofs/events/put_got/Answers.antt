use Rattle.ultra_io.proofs.Writing.{◌then◌}
use Rattle.ultra_trace_text.proofs.events.put_got.Goals as goal

pub returns-in-Delivered : goal.returns-in-Delivered
returns-in-Delivered g c =
    rw c.in-Delivered.is
    (c.begin-at.ensures.goes_on then c.write-at.ensures.goes_on then c.write_message-at.ensures.goes_on then c.end_line.ensures)
