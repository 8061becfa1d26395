use Rattle.std.proofs.{lemmas.Grind.common_steps, Common.arith}
use Rattle.ultra_block_core.proofs.Known.{no_reply_held_past, no_replies_sent}
use Rattle.ultra_block_core.proofs.block.Block.send_held_replies.Goals as goal

pub is_empty_sized-requires : goal.is_empty_sized-requires
is_empty_sized-requires g c = λ is. no_reply_held_past c.self.invariant (omega arith) (omega arith) (rw (← c.self.view_is) at (c.requires.small is))

pub returns-then-is_empty_sized : goal.returns-then-is_empty_sized
returns-then-is_empty_sized g c = rw (c.self.view_is) at (no_replies_sent c.self.invariant c.args.closed.now (c.is_empty_sized.ensures.0 c.if-is_empty_sized.true))

pub returns-then-is_empty_sized-2 : goal.returns-then-is_empty_sized-2
returns-then-is_empty_sized-2 g c = grind (arith, common_steps)

pub returns-else-is_empty_sized-2 : goal.returns-else-is_empty_sized-2
returns-else-is_empty_sized-2 g c = grind (arith, common_steps)
