use Rattle.std.proofs.{Common.arith, lemmas.Grind.common_steps}
use Rattle.ultra_partition.proofs.Questions.{held_by_all}
use Rattle.ultra_block.proofs.blocks.Blocks.holding_of_one.Goals as goal

pub returns : goal.returns
returns c =
    let one = rw (← c.self.view_is) at c.requires in
    let all = held_by_all c.self.inside.parts.blocks.items c.args.held c.holding.result.now 1 (omega (arith, one)) (λ u. let here = c.holding.ensures u in grind (arith, common_steps)) in
    rw (← c.self.view_is) (all _ _ _ _ _ c.self.invariant.whole.machine.blocks)
