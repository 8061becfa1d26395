use Rattle.std.proofs.{Common.◌∙◌, lemmas.Result.IfOk-from_err}
use Rattle.ultra_serial.proofs.by_name.ListsByName.with_places.Goals as goal

pub loop-row-preserved : goal.loop-row-preserved
loop-row-preserved g c = λ whole a b. c.in_ok-add_row.ensures whole a b ∙ c.loop-row.invariant whole a b

pub returns : goal.returns
returns g c = c.loop-row.invariant

pub returns-in_err-add_row : goal.returns-in_err-add_row
returns-in_err-add_row g c = IfOk-from_err c.from_residual.result _ c.from_residual.ensures.0
