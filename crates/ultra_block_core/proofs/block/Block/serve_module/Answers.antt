use Rattle.std.proofs.{lemmas.Grind.common_steps, Common.{Some, arith}}
use Rattle.ultra_block_core.proofs.{Common.get_or_default, Known.module_kept}
use Rattle.ultra_block_core.proofs.block.Block.serve_module.Goals as goal

pub invariant_of-self-in-Some-served : goal.invariant_of-self-in-Some-served
invariant_of-self-in-Some-served g c =
    module_kept c.self.invariant c.note_module_served.ensures c.args.module_number (Some c.in-Some.memory_module) (Some c.serve-served.new.self) (grind (arith, get_or_default)) (grind arith) (grind arith)

pub invariant_of-self-in_default-served : goal.invariant_of-self-in_default-served
invariant_of-self-in_default-served g c =
    module_kept c.self.invariant c.note_module_served.ensures c.args.module_number (Some c.in-Some.memory_module) (Some c.serve-served.new.self) (grind (arith, get_or_default)) (grind arith) (grind arith)

pub invariant_of-self : goal.invariant_of-self
invariant_of-self g c = grind (arith, common_steps)

pub returns-in_default : goal.returns-in_default
returns-in_default g c = grind (arith, common_steps)

pub returns-in-Some-served : goal.returns-in-Some-served
returns-in-Some-served g c = grind (arith, common_steps)

pub returns-in_default-served : goal.returns-in_default-served
returns-in_default-served g c = grind (arith, common_steps)
