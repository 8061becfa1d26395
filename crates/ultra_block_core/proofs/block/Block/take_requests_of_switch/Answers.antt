use Rattle.std.proofs.{lemmas.Grind.common_steps, Common.{Some, arith, ◌%◌, ◌==◌}}
use Rattle.ultra_block_core.proofs.{Common.get_or_default, Known.switch_kept, Noted.requests_came}
use Rattle.ultra_block_core.proofs.block.Block.take_requests_of_switch.Goals as goal

pub take_into_switch-has_combined-requires : goal.take_into_switch-has_combined-requires
take_into_switch-has_combined-requires g c =
    let turn = (c.self.inside.done % 2 == 0) in
    grind (arith, get_or_default, turn)

pub invariant_of-self-2 : goal.invariant_of-self-2
invariant_of-self-2 g c =
    let taken = c.take_into_switch-has_combined.ensures in
    switch_kept c.self.invariant c.note_switch_took_requests.ensures (Some c.in-Some.switch) (Some c.take_into_switch-has_combined.new.switch) (grind (arith, get_or_default)) (rw (taken.switch) (requests_came c.in-Some.switch c.self.inside.net c.args.stage c.args.index _ _ c.take_into_switch-has_combined.result taken.none.0)) (grind arith)

pub invariant_of-self : goal.invariant_of-self
invariant_of-self g c = grind (arith, common_steps)

pub returns-in_default-clause-value : goal.returns-in_default-clause-value
returns-in_default-clause-value g c = grind (arith, common_steps)

pub returns-in_default-clause-few : goal.returns-in_default-clause-few
returns-in_default-clause-few g c = grind (arith, common_steps)

pub returns-clause-value : goal.returns-clause-value
returns-clause-value g c = grind (arith, common_steps)

pub returns-clause-few : goal.returns-clause-few
returns-clause-few g c = grind (arith, common_steps)
