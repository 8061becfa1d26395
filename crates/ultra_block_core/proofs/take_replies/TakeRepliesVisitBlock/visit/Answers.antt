use Rattle.std.proofs.Common.{arith}
use Rattle.ultra_block_core.proofs.Visited.{no_reply_left, element_took_reply}
use Rattle.ultra_block_core.proofs.take_replies.TakeRepliesVisitBlock.visit.Goals as goal

pub returns-in-Element-clause-later : goal.returns-in-Element-clause-later
returns-in-Element-clause-later g c = λ k order can. let took = element_took_reply c.args.block.now k c.args.unit c.in-Element.pe order in grind (arith, took)

pub returns-in-Switch-clause-idle : goal.returns-in-Switch-clause-idle
returns-in-Switch-clause-idle g c = λ k order none. let left = no_reply_left c.args.block.now c.args.unit c.in-Switch.stage c.in-Switch.index k none in grind arith
