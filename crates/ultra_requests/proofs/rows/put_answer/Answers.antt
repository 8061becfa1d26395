use Rattle.ultra_io.proofs.Writing.{◌then◌}
use Rattle.ultra_requests.proofs.rows.put_answer.Goals as goal

pub returns-in-Some : goal.returns-in-Some
returns-in-Some g c =
    let answer = c.write_number-at.ensures.goes_on then c.write-at.ensures.goes_on then c.write_reply-at.ensures.goes_on in
    rw c.in-Some.is (c.begin_row-at.ensures.goes_on then answer then c.end_line.ensures)
