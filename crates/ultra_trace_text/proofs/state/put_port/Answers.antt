use Rattle.std.proofs.{Common.arith, lemmas.Grind.common_steps}
use Rattle.ultra_trace_text.proofs.state.put_port.Goals as goal

pub returns-in-Reply : goal.returns-in-Reply
returns-in-Reply g c = grind (arith, common_steps)

pub returns-in-Request : goal.returns-in-Request
returns-in-Request g c = grind (arith, common_steps)

pub returns-in-Record : goal.returns-in-Record
returns-in-Record g c = grind (arith, common_steps)
