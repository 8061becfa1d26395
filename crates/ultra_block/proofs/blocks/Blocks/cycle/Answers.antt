use Rattle.std.proofs.{Common.arith, lemmas.List.with_items_is}
use Rattle.ultra_block.proofs.blocks.Blocks.cycle.Goals as goal

pub invariant_of-self : goal.invariant_of-self
invariant_of-self c = grind (arith, with_items_is, c.make_cycle.ensures c.self.inside.parts.program)
