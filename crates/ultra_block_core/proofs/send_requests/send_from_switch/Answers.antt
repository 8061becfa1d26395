use Rattle.std.proofs.{Common.arith, lemmas.Grind.common_steps}
use Rattle.ultra_block_core.proofs.send_requests.send_from_switch.Goals as goal

pub returns-clause-switch : goal.returns-clause-switch
returns-clause-switch g c = grind (arith, common_steps)

pub returns-clause-links : goal.returns-clause-links
returns-clause-links g c = grind (arith, common_steps)

pub returns-clause-go : goal.returns-clause-go
returns-clause-go g c = grind (arith, common_steps)
