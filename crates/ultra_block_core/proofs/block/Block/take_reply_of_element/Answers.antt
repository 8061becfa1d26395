use Rattle.std.proofs.{lemmas.Grind.common_steps, Common.{Some, refl, arith}}
use Rattle.ultra_block_core.proofs.{Common.get_or_default, Known.{element_kept, same_facts}}
use Rattle.ultra_block_core.proofs.block.Block.take_reply_of_element.Goals as goal

pub deliver-requires : goal.deliver-requires
deliver-requires g c = grind (arith, get_or_default)

pub invariant_of-self-in-Some-incoming : goal.invariant_of-self-in-Some-incoming
invariant_of-self-in-Some-incoming g c =
    element_kept c.self.invariant (same_facts c.self.inside.sets c.args.unit) c.args.pe (Some c.in-Some.element) (Some c.deliver.new.self) (grind (arith, get_or_default)) (rw (c.deliver.ensures) refl) (grind arith)

pub invariant_of-self-in_default-incoming : goal.invariant_of-self-in_default-incoming
invariant_of-self-in_default-incoming g c =
    element_kept c.self.invariant (same_facts c.self.inside.sets c.args.unit) c.args.pe (Some c.in-Some.element) (Some c.in-Some.element) (grind (arith, get_or_default)) refl (grind arith)

pub invariant_of-self : goal.invariant_of-self
invariant_of-self g c = grind (arith, common_steps)

pub returns-in_default : goal.returns-in_default
returns-in_default g c = grind (arith, common_steps)

pub returns-in-Some-incoming : goal.returns-in-Some-incoming
returns-in-Some-incoming g c = grind (arith, common_steps)

pub returns-in_default-incoming : goal.returns-in_default-incoming
returns-in_default-incoming g c = grind (arith, common_steps)
