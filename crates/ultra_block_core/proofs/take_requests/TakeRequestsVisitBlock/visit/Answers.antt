use Rattle.std.proofs.Common.{arith}
use Rattle.ultra_block_core.proofs.Visited.{no_request_left}
use Rattle.ultra_block_core.proofs.take_requests.TakeRequestsVisitBlock.visit.Goals as goal

pub returns-in-Switch-clause-idle : goal.returns-in-Switch-clause-idle
returns-in-Switch-clause-idle g c = λ k order none. let left = no_request_left c.args.block.now c.args.unit c.in-Switch.stage c.in-Switch.index k none in grind arith
