use Rattle.std.proofs.{lemmas.Grind.common_steps, Common.{None, refl, arith}}
use Rattle.ultra_block_core.proofs.Known.{element_kept, module_kept, switch_kept}
use Rattle.ultra_block_core.proofs.block.Block.move_unit.Goals as goal

pub invariant_of-self : goal.invariant_of-self
invariant_of-self c = switch_kept c.self.invariant c.remove_unit.ensures _ None refl refl (grind arith)

pub invariant_of-self-in_default : goal.invariant_of-self-in_default
invariant_of-self-in_default c = switch_kept c.self.invariant c.remove_unit.ensures _ None refl refl (grind arith)

pub invariant_of-self-in-Some-take : goal.invariant_of-self-in-Some-take
invariant_of-self-in-Some-take c = module_kept c.self.invariant c.remove_unit-in-Module.ensures c.in-Module.module _ None refl refl (grind arith)

pub invariant_of-self-in_default-take : goal.invariant_of-self-in_default-take
invariant_of-self-in_default-take c = module_kept c.self.invariant c.remove_unit-in-Module.ensures c.in-Module.module _ None refl refl (grind arith)

pub invariant_of-self-in-Some-take-2 : goal.invariant_of-self-in-Some-take-2
invariant_of-self-in-Some-take-2 c = element_kept c.self.invariant c.remove_unit-in-Element.ensures c.in-Element.pe _ None refl refl (grind arith)

pub invariant_of-self-in_default-take-2 : goal.invariant_of-self-in_default-take-2
invariant_of-self-in_default-take-2 c = element_kept c.self.invariant c.remove_unit-in-Element.ensures c.in-Element.pe _ None refl refl (grind arith)

pub returns-in-Some-clause-left : goal.returns-in-Some-clause-left
returns-in-Some-clause-left c = grind (arith, common_steps)

pub returns-in-Some-clause-there : goal.returns-in-Some-clause-there
returns-in-Some-clause-there c = grind (arith, common_steps)

pub returns-in_default-clause-left : goal.returns-in_default-clause-left
returns-in_default-clause-left c = grind (arith, common_steps)

pub returns-in_default-clause-there : goal.returns-in_default-clause-there
returns-in_default-clause-there c = grind (arith, common_steps)

pub returns-in-Some-take-clause-left : goal.returns-in-Some-take-clause-left
returns-in-Some-take-clause-left c = grind (arith, common_steps)

pub returns-in-Some-take-clause-there : goal.returns-in-Some-take-clause-there
returns-in-Some-take-clause-there c = grind (arith, common_steps)

pub returns-in_default-take-clause-left : goal.returns-in_default-take-clause-left
returns-in_default-take-clause-left c = grind (arith, common_steps)

pub returns-in_default-take-clause-there : goal.returns-in_default-take-clause-there
returns-in_default-take-clause-there c = grind (arith, common_steps)

pub returns-in-Some-take-2-clause-left : goal.returns-in-Some-take-2-clause-left
returns-in-Some-take-2-clause-left c = grind (arith, common_steps)

pub returns-in-Some-take-2-clause-there : goal.returns-in-Some-take-2-clause-there
returns-in-Some-take-2-clause-there c = grind (arith, common_steps)

pub returns-in_default-take-2-clause-left : goal.returns-in_default-take-2-clause-left
returns-in_default-take-2-clause-left c = grind (arith, common_steps)

pub returns-in_default-take-2-clause-there : goal.returns-in_default-take-2-clause-there
returns-in_default-take-2-clause-there c = grind (arith, common_steps)

pub returns-in-Nothing-clause-left : goal.returns-in-Nothing-clause-left
returns-in-Nothing-clause-left c = grind (arith, common_steps)

pub returns-in-Nothing-clause-there : goal.returns-in-Nothing-clause-there
returns-in-Nothing-clause-there c = grind (arith, common_steps)
