use Rattle.ultra_io.proofs.Writing.{◌moved◌}
use Rattle.ultra_requests.proofs.texts.end_line.Goals as goal

pub returns : goal.returns
returns g c = c.write-end.ensures.goes_on moved c.end.ensures
