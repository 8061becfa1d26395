use Rattle.std.proofs.{Common.arith, lemmas.Grind.common_steps}
use Rattle.ultra_topology.proofs.links.Links.empty.Goals as goal

pub returns-in_err-table-clause-stages : goal.returns-in_err-table-clause-stages
returns-in_err-table-clause-stages g c = grind (arith, common_steps)

pub returns-in_err-table-clause-table : goal.returns-in_err-table-clause-table
returns-in_err-table-clause-table g c = grind (arith, common_steps)

pub returns-in_err-table-clause-targets : goal.returns-in_err-table-clause-targets
returns-in_err-table-clause-targets g c = grind (arith, common_steps)

pub loop-link-init : goal.loop-link-init
loop-link-init g c = grind (arith, common_steps)

pub returns-in_err-push-clause-stages : goal.returns-in_err-push-clause-stages
returns-in_err-push-clause-stages g c = grind (arith, common_steps)

pub returns-in_err-push-clause-table : goal.returns-in_err-push-clause-table
returns-in_err-push-clause-table g c = grind (arith, common_steps)

pub returns-in_err-push-clause-targets : goal.returns-in_err-push-clause-targets
returns-in_err-push-clause-targets g c = grind (arith, common_steps)

pub loop-link-preserved : goal.loop-link-preserved
loop-link-preserved g c = grind (arith, common_steps)

pub invariant_of-result : goal.invariant_of-result
invariant_of-result g c = grind (arith, common_steps)

pub returns-clause-stages : goal.returns-clause-stages
returns-clause-stages g c = grind (arith, common_steps)

pub returns-clause-table : goal.returns-clause-table
returns-clause-table g c = grind (arith, common_steps)

pub returns-clause-targets : goal.returns-clause-targets
returns-clause-targets g c = grind (arith, common_steps)
