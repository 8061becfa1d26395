use Rattle.ultra_block.proofs.blocks.Blocks.holding.Goals as goal

pub returns : goal.returns
returns c = rw (← c.self.view_is) ((rw c.as_slice.ensures.value at c.holders.ensures) _ _ _ _ _ c.self.invariant.whole.machine.blocks)
