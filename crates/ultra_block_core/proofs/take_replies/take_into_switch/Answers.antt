use Rattle.std.proofs.{lemmas.Grind.common_steps, Common.{arith, get_or-set_other}}
use Rattle.ultra_unit_steps.proofs.Going.{room_left}
use Rattle.ultra_block_core.proofs.take_replies.take_into_switch.Goals as goal

pub take_reply-requires-2 : goal.take_reply-requires-2
take_reply-requires-2 c = let apart = c.requires.inlets.apart c.requires.switch in grind (arith, get_or-set_other, room_left)

pub returns-clause-switch : goal.returns-clause-switch
returns-clause-switch c = let apart = c.requires.inlets.apart c.requires.switch in grind (arith, get_or-set_other)

pub returns-clause-links : goal.returns-clause-links
returns-clause-links c = grind (arith, common_steps)
