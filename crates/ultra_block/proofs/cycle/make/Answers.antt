use Rattle.std.proofs.{Common.arith, lemmas.{Grind.common_steps, List.Edits.map_over_more}}
use Rattle.ultra_block.proofs.cycle.make.Goals as goal

pub loop-block-preserved : goal.loop-block-preserved
loop-block-preserved c = rw (c.make.ensures, ← c.block-item.is) (map_over_more _ _ _ _ _ (omega arith) c.loop-block.invariant c.block-item.is)

pub loop-block-init : goal.loop-block-init
loop-block-init c = grind (arith, common_steps)

pub returns : goal.returns
returns c = grind (arith, common_steps)
