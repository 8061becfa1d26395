use Rattle.std.proofs.Common.{arith}
use Rattle.ultra_block_core.proofs.Common.{are_inlets, replies_read}
use Rattle.ultra_block_core.proofs.block.Block.add_replies_to.Goals as goal

pub add_messages_to-requires-clause-inlets : goal.add_messages_to-requires-clause-inlets
add_messages_to-requires-clause-inlets c = rw (c.self.invariant.replies) (are_inlets _ _ replies_read _ (omega arith) (omega arith) _ _ (rw (← c.self.view_is) at c.requires.links))
