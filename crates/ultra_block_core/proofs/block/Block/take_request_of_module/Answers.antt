use Rattle.std.proofs.{lemmas.Grind.common_steps, Common.{Some, sym, ◌∙◌, arith}}
use Rattle.ultra_block_core.proofs.{Common.get_or_default, Known.module_kept}
use Rattle.ultra_block_core.proofs.block.Block.take_request_of_module.Goals as goal

pub take_request-requires : goal.take_request-requires
take_request-requires g c =
    let can = rw (← c.self.view_is) at c.requires.can in
    let asked = can c.in-Some.memory_module (grind (arith, get_or_default)) c.in-Some-incoming.request (sym c.take_for_module-incoming.ensures.incoming ∙ c.in-Some-incoming.is) in
    grind (arith, asked)

pub invariant_of-self-2 : goal.invariant_of-self-2
invariant_of-self-2 g c =
    module_kept c.self.invariant c.note_module_took_request.ensures c.args.module_number (Some c.in-Some.memory_module) (Some c.match-incoming.memory_module) (grind (arith, get_or_default)) (grind arith) (grind arith)

pub invariant_of-self : goal.invariant_of-self
invariant_of-self g c = grind (arith, common_steps)

pub returns-in_default : goal.returns-in_default
returns-in_default g c = grind (arith, common_steps)

pub returns : goal.returns
returns g c = grind (arith, common_steps)
