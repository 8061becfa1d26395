use Rattle.ultra_io.proofs.Writing.{◌then◌}
use Rattle.ultra_requests.proofs.rows.begin_row.Goals as goal

pub returns-clause-goes_on : goal.returns-clause-goes_on
returns-clause-goes_on g c =
    let first = c.begin-at.ensures.goes_on then c.write_number-at.ensures.goes_on then c.write-at.ensures.goes_on then c.write_number-at-2.ensures.goes_on then c.write-at-2.ensures.goes_on then c.write_op_name-at.ensures.goes_on in
    first then c.write-at-3.ensures.goes_on then c.write_number-at-3.ensures.goes_on then c.write-at-4.ensures.goes_on then c.write_word-at.ensures.goes_on then c.write-at-5.ensures.goes_on then c.write_number-at-4.ensures.goes_on then c.write.ensures.goes_on
