use Rattle.ultra_io.proofs.Writing.{◌then◌}
use Rattle.ultra_trace_text.proofs.texts.write_record.Goals as goal

pub returns-clause-goes_on : goal.returns-clause-goes_on
returns-clause-goes_on g c = c.write_identity-at.ensures.goes_on then c.write-at.ensures.goes_on then c.write_give-at.ensures.goes_on then c.write-at-2.ensures.goes_on then c.write_number-at.ensures.goes_on then c.write-at-3.ensures.goes_on then c.write_give.ensures.goes_on
