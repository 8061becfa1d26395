use Rattle.std.proofs.Common.{Some, refl, arith}
use Rattle.ultra_block_core.proofs.Known.{element_kept}
use Rattle.ultra_block_core.proofs.block.Block.put_element.Goals as goal

pub invariant_of-self : goal.invariant_of-self
invariant_of-self c = element_kept c.self.invariant c.add_element.ensures c.args.pe _ (Some c.args.element) refl refl (grind arith)
