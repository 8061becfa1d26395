use Rattle.ultra_block_core.proofs.Known.{stepping_is}
use Rattle.ultra_block_core.proofs.block.Block.is_stepping.Goals as goal

pub returns : goal.returns
returns c = rw (← c.self.view_is) (let is = stepping_is c.self.inside c.self.invariant _ c.is_empty.ensures in record { value = is.0; busy = is.1 })
