use Rattle.ultra_io.proofs.Writing.{◌then◌}
use Rattle.ultra_trace_text.proofs.events.put_act.Goals as goal

pub returns-in-Served : goal.returns-in-Served
returns-in-Served g c =
    let act = c.begin-at.ensures.goes_on then c.write_with_word-at.ensures.goes_on then c.write-at.ensures.goes_on then c.write_request-at.ensures.goes_on then c.write-at-in-Served.ensures.goes_on in
    let now = act then c.write_reply-at.ensures.goes_on then c.write-at-in-Served-2.ensures.goes_on then c.write_number-at.ensures.goes_on in
    rw c.in-Served.is (now then c.end_line.ensures)
