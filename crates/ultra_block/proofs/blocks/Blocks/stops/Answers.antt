use Rattle.std.proofs.{Common.arith, lemmas.List.{get_or_default, length-map, length-take-le}}
use Rattle.ultra_block.proofs.blocks.Blocks.stops.Goals as goal

pub add-requires : goal.add-requires
add-requires c = grind (arith, get_or_default, length-map, length-take-le, c.self.invariant.whole.in_order c.loop-block.block-index)
