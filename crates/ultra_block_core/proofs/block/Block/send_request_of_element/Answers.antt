use Rattle.std.proofs.{lemmas.Grind.common_steps, Common.{Some, arith, rules}}
use Rattle.ultra_topology.proofs.Readers.{element_leads}
use Rattle.ultra_block_core.proofs.{Common.{get_or_default, nat_tests}, Known.element_kept}
use Rattle.ultra_block_core.proofs.block.Block.send_request_of_element.Goals as goal

pub invariant_of-self-2 : goal.invariant_of-self-2
invariant_of-self-2 g c =
    element_kept c.self.invariant c.note_element_sent_request.ensures c.args.pe (Some c.in-Some.element) (Some c.send_request-out.new.self) (grind (arith, get_or_default)) (grind (arith, nat_tests)) (grind arith)

pub send_from_end-requires-clause-leads : goal.send_from_end-requires-clause-leads
send_from_end-requires-clause-leads g c = (element_leads _ _ _ (omega arith) (omega arith) (rw (← c.self.view_is) at c.requires.is).small (search rules)).no_other

pub invariant_of-self : goal.invariant_of-self
invariant_of-self g c = grind (arith, common_steps)

pub returns-in_default : goal.returns-in_default
returns-in_default g c = grind (arith, common_steps)

pub invariant_of-self-then-not-may_leave : goal.invariant_of-self-then-not-may_leave
invariant_of-self-then-not-may_leave g c = grind (arith, common_steps)

pub returns-then-not-may_leave : goal.returns-then-not-may_leave
returns-then-not-may_leave g c = grind (arith, common_steps)

pub returns : goal.returns
returns g c = grind (arith, common_steps)
