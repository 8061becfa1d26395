use Rattle.std.proofs.{lemmas.Grind.common_steps, Common.{Some, arith}}
use Rattle.ultra_block_core.proofs.{Common.{get_or_default, nat_tests}, Known.switch_kept, Noted.shorter}
use Rattle.ultra_block_core.proofs.block.Block.send_replies_of_switch.Goals as goal

pub invariant_of-self-2 : goal.invariant_of-self-2
invariant_of-self-2 g c =
    switch_kept c.self.invariant c.note_switch_sent_replies.ensures (Some c.in-Some.switch) (Some c.send_from_switch.new.switch) (grind (arith, get_or_default)) (grind (arith, nat_tests, shorter)) (grind arith)

pub invariant_of-self : goal.invariant_of-self
invariant_of-self g c = grind (arith, common_steps)

pub returns-in_default : goal.returns-in_default
returns-in_default g c = grind (arith, common_steps)

pub returns : goal.returns
returns g c = grind (arith, common_steps)
