use Rattle.std.proofs.{lemmas.Grind.common_steps, Common.{Some, arith}}
use Rattle.ultra_block_core.proofs.Common.{get_or_default, faulted_stops, holds_as_before, issued_holds, issued_runs, went_on}
use Rattle.ultra_block_core.proofs.Known.{element_kept, same_facts}
use Rattle.ultra_block_core.proofs.block.Block.execute_element.Goals as goal

pub invariant_of-self-in-AtRest : goal.invariant_of-self-in-AtRest
invariant_of-self-in-AtRest g c =
    element_kept c.self.invariant (same_facts c.self.inside.sets c.args.unit) c.args.pe (Some c.in-Some.element) (Some c.execute-outcome.new.self) (grind (arith, get_or_default)) (grind arith) (grind arith)

pub invariant_of-self-then-has_stopped : goal.invariant_of-self-then-has_stopped
invariant_of-self-then-has_stopped g c =
    element_kept c.self.invariant c.note_element_stopped.ensures c.args.pe (Some c.in-Some.element) (Some c.execute-outcome.new.self) (grind (arith, get_or_default)) (grind (arith, holds_as_before)) (grind arith)

pub invariant_of-self-else-has_stopped : goal.invariant_of-self-else-has_stopped
invariant_of-self-else-has_stopped g c =
    element_kept c.self.invariant (same_facts c.self.inside.sets c.args.unit) c.args.pe (Some c.in-Some.element) (Some c.execute-outcome.new.self) (grind (arith, get_or_default)) (grind (arith, holds_as_before, went_on)) (grind arith)

pub invariant_of-self-in-Issued : goal.invariant_of-self-in-Issued
invariant_of-self-in-Issued g c =
    let holds = issued_holds c.self.inside.program c.in-Some.element c.in-Issued.event in
    let runs = issued_runs c.self.inside.program c.in-Some.element c.in-Issued.event in
    element_kept c.self.invariant c.note_element_issued.ensures c.args.pe (Some c.in-Some.element) (Some c.execute-outcome.new.self) (grind (arith, get_or_default)) (grind arith) (grind arith)

pub invariant_of-self-in-Faulted : goal.invariant_of-self-in-Faulted
invariant_of-self-in-Faulted g c =
    element_kept c.self.invariant c.note_element_stopped-in-Faulted.ensures c.args.pe (Some c.in-Some.element) (Some c.execute-outcome.new.self) (grind (arith, get_or_default)) (grind (arith, holds_as_before, faulted_stops)) (grind arith)

pub invariant_of-self : goal.invariant_of-self
invariant_of-self g c = grind (arith, common_steps)

pub returns-in_default : goal.returns-in_default
returns-in_default g c = grind (arith, common_steps)

pub returns-in-AtRest : goal.returns-in-AtRest
returns-in-AtRest g c = grind (arith, common_steps)

pub returns-then-has_stopped : goal.returns-then-has_stopped
returns-then-has_stopped g c = grind (arith, common_steps)

pub returns-else-has_stopped : goal.returns-else-has_stopped
returns-else-has_stopped g c = grind (arith, common_steps)

pub returns-in-Issued : goal.returns-in-Issued
returns-in-Issued g c = grind (arith, common_steps)

pub returns-in-Faulted : goal.returns-in-Faulted
returns-in-Faulted g c = grind (arith, common_steps)
