use Rattle.std.proofs.{Common.{arith, refl}, lemmas.{Grind.common_steps, List.get_or_default}}
use Rattle.ultra_partition.specs.Moments.{machine_in}
use Rattle.ultra_block.proofs.Dealt.{none_carried, same_cut, unit_carried}
use Rattle.ultra_block.specs.State.{MakeUp}
use Rattle.ultra_block.proofs.blocks.Blocks.recut.Goals as goal

pub loop-unit-init : goal.loop-unit-init
loop-unit-init c =
    none_carried _ _ _ c.count_blocks-count.result _ _ _ _ (grind (arith, get_or_default, c.self.invariant.whole.machine.blocks.cut.stages 0)) (grind (arith, common_steps)) c.count_blocks-count.ensures.last c.count_blocks-count.ensures.named c.in-Ok-empty_blocks.ensures (grind (arith, get_or_default)) (grind (arith, common_steps, get_or_default)) refl

pub move_unit-requires : goal.move_unit-requires
move_unit-requires c = grind (arith, get_or_default, c.loop-unit.invariant.named c.loop-unit.unit 0)

pub loop-unit-preserved : goal.loop-unit-preserved
loop-unit-preserved c = grind (arith, get_or_default, unit_carried _ _ _ _ _ _ c.loop-unit.invariant (omega arith))

same : (c : goal.After-drop-parts-2) → let p = c.self.inside.parts in
    MakeUp p.config p.program c.args.partition.now p.done (machine_in p.config p.partition.items p.done p.blocks.items) c.loop-unit.blocks.items
same c = same_cut c.self.invariant.whole (grind (arith, common_steps, get_or_default)) c.loop-unit.invariant (grind arith) (omega arith) (grind arith)

pub invariant_of-result : goal.invariant_of-result
invariant_of-result c = grind (arith, same c)

pub returns-clause-state : goal.returns-clause-state
returns-clause-state c = grind (arith, same c)
