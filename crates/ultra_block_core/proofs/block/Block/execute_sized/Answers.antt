use Rattle.std.proofs.Common.{arith}
use Rattle.ultra_block_core.proofs.Visited.{own_steps}
use Rattle.ultra_block_core.proofs.block.Block.execute_sized.Goals as goal

pub overflow_add-self : goal.overflow_add-self
overflow_add-self g c = let steps = own_steps 320 c.args.self.now in grind arith

pub returns : goal.returns
returns g c = let steps = own_steps 320 c.args.self.now in grind arith
