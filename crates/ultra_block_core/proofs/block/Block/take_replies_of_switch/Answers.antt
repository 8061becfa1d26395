use Rattle.std.proofs.{lemmas.Grind.common_steps, Common.{Some, arith, length-append}}
use Rattle.ultra_block_core.proofs.{Common.{get_or_default, nat_tests}, Known.switch_kept, Noted.none_left}
use Rattle.ultra_block_core.proofs.block.Block.take_replies_of_switch.Goals as goal

pub take_into_switch-requires-clause-room : goal.take_into_switch-requires-clause-room
take_into_switch-requires-clause-room g c = grind (arith, get_or_default)

pub invariant_of-self-2 : goal.invariant_of-self-2
invariant_of-self-2 g c =
    switch_kept c.self.invariant c.note_switch_took_replies.ensures (Some c.in-Some.switch) (Some c.take_into_switch.new.switch) (grind (arith, get_or_default)) (grind (arith, nat_tests, none_left, length-append)) (grind arith)

pub invariant_of-self : goal.invariant_of-self
invariant_of-self g c = grind (arith, common_steps)

pub returns-in_default : goal.returns-in_default
returns-in_default g c = grind (arith, common_steps)

pub returns : goal.returns
returns g c = grind (arith, common_steps)
