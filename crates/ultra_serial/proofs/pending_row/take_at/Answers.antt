use Rattle.std.proofs.{Common.arith, lemmas.Grind.common_steps}
use Rattle.ultra_serial.proofs.pending_row.take_at.Goals as goal

pub returns-then-index-len-clause-rest : goal.returns-then-index-len-clause-rest
returns-then-index-len-clause-rest c = grind (arith, common_steps)

pub returns-else-index-len-clause-rest : goal.returns-else-index-len-clause-rest
returns-else-index-len-clause-rest c = grind (arith, common_steps)
