use Rattle.ultra_io.proofs.Writing.{◌then◌}
use Rattle.ultra_trace_text.proofs.texts.write_request.Goals as goal

pub returns-clause-goes_on : goal.returns-clause-goes_on
returns-clause-goes_on g c = c.write_identity-at.ensures.goes_on then c.write-at.ensures.goes_on then c.write_op.ensures.goes_on
