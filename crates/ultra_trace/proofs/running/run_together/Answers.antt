use Rattle.std.proofs.lemmas.Result.{IfOk-from_err, MatchResult-from_err}
use Rattle.ultra_msg.proofs.Prefixes.{takes_none}
use Rattle.ultra_trace.proofs.running.run_together.Goals as goal

pub returns-in_err-blocks-clause-ok : goal.returns-in_err-blocks-clause-ok
returns-in_err-blocks-clause-ok g c = IfOk-from_err c.from_residual.result _ c.from_residual.ensures.0

pub returns-in_err-blocks-clause-still : goal.returns-in_err-blocks-clause-still
returns-in_err-blocks-clause-still g c = IfOk-from_err c.from_residual.result _ c.from_residual.ensures.0

pub returns-in_err-blocks-clause-err : goal.returns-in_err-blocks-clause-err
returns-in_err-blocks-clause-err g c = MatchResult-from_err c.from_residual.result _ _ c.from_residual.ensures.0 (λ e. takes_none _ _)
