use Rattle.std.proofs.Common.{arith}
use Rattle.ultra_block_core.proofs.Common.{are_inlets, requests_read}
use Rattle.ultra_block_core.proofs.block.Block.add_requests_to.Goals as goal

pub add_messages_to-requires-clause-inlets : goal.add_messages_to-requires-clause-inlets
add_messages_to-requires-clause-inlets c = rw (c.self.invariant.requests) (are_inlets _ _ requests_read _ (omega arith) (omega arith) _ _ (rw (← c.self.view_is) at c.requires.links))
