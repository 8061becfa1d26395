use Rattle.std.proofs.{Common.arith, lemmas.Grind.common_steps}
use Rattle.ultra_settings.proofs.jobs.paths_in.Goals as goal

pub returns-in_err-jobs : goal.returns-in_err-jobs
returns-in_err-jobs c = grind (arith, common_steps)

pub loop-value-init : goal.loop-value-init
loop-value-init c = grind (arith, common_steps)

pub returns-in_default : goal.returns-in_default
returns-in_default c = grind (arith, common_steps)

pub returns-in_err-conf : goal.returns-in_err-conf
returns-in_err-conf c = grind (arith, common_steps)

pub returns-in_err-prog : goal.returns-in_err-prog
returns-in_err-prog c = grind (arith, common_steps)

pub returns-in_err-push : goal.returns-in_err-push
returns-in_err-push c = grind (arith, common_steps)

pub loop-value-preserved : goal.loop-value-preserved
loop-value-preserved c = grind (arith, common_steps)

pub returns : goal.returns
returns c = grind (arith, common_steps)
