use Rattle.std.proofs.Common.{Some, refl, arith}
use Rattle.ultra_block_core.proofs.Known.{module_kept}
use Rattle.ultra_block_core.proofs.block.Block.put_module.Goals as goal

pub invariant_of-self : goal.invariant_of-self
invariant_of-self c = module_kept c.self.invariant c.add_module.ensures c.args.number _ (Some c.args.memory_module) refl refl (grind arith)
