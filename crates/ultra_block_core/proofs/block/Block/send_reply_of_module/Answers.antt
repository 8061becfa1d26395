use Rattle.std.proofs.{lemmas.Grind.common_steps, Common.{Some, arith, rules}}
use Rattle.ultra_topology.proofs.Readers.{module_leads}
use Rattle.ultra_block_core.proofs.{Common.get_or_default, Known.module_kept}
use Rattle.ultra_block_core.proofs.block.Block.send_reply_of_module.Goals as goal

pub invariant_of-self-2 : goal.invariant_of-self-2
invariant_of-self-2 g c =
    module_kept c.self.invariant c.note_module_sent_reply.ensures c.args.module_number (Some c.in-Some.memory_module) (Some c.send_reply_if-out.new.memory_module) (grind (arith, get_or_default)) (grind arith) (grind arith)

pub send_from_end-requires-clause-leads : goal.send_from_end-requires-clause-leads
send_from_end-requires-clause-leads g c = (module_leads _ _ _ (omega arith) (omega arith) (rw (← c.self.view_is) at c.requires.is).small (search rules)).no_other

pub invariant_of-self : goal.invariant_of-self
invariant_of-self g c = grind (arith, common_steps)

pub returns-in_default : goal.returns-in_default
returns-in_default g c = grind (arith, common_steps)

pub returns : goal.returns
returns g c = grind (arith, common_steps)
