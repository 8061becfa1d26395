use Rattle.std.proofs.Common.{Some, refl, arith}
use Rattle.ultra_block_core.proofs.Known.{switch_kept}
use Rattle.ultra_block_core.proofs.block.Block.put_switch.Goals as goal

pub invariant_of-self : goal.invariant_of-self
invariant_of-self c = switch_kept c.self.invariant c.add_switch.ensures _ (Some c.args.switch) refl refl (grind arith)
