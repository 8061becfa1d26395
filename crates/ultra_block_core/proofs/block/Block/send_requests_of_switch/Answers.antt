use Rattle.std.proofs.lemmas.Grind.{common_steps}
use Rattle.std.proofs.Common.{◌≡◌, Bool, false, ◌||◌, Option, Some, None, arith}
use Rattle.std.specs.Prelude.{is_some}
use Rattle.ultra_block_core.proofs.{Common.{Ports, get_or_default, nat_tests}, Known.{same_facts, switch_kept}, Noted.shorter}
use Rattle.ultra_block_core.proofs.block.Block.send_requests_of_switch.Goals as goal

none_go : {X : Type 0} (out : Ports (Option X)) (goes : Bool) → goes ≡ is_some out.zero || is_some out.one → goes ≡ false → out ≡ record { zero = None; one = None }
none_go out goes is none = grind arith

pub invariant_of-self-then-send_from_switch : goal.invariant_of-self-then-send_from_switch
invariant_of-self-then-send_from_switch g c =
    switch_kept c.self.invariant c.note_switch_sent_requests.ensures (Some c.in-Some.switch) (Some c.send_from_switch.new.switch) (grind (arith, get_or_default)) (grind (arith, nat_tests, shorter)) (grind arith)

pub invariant_of-self-else-send_from_switch : goal.invariant_of-self-else-send_from_switch
invariant_of-self-else-send_from_switch g c =
    let none = none_go _ _ c.send_from_switch.ensures.go c.if-send_from_switch.false in
    switch_kept c.self.invariant (same_facts c.self.inside.sets c.args.unit) (Some c.in-Some.switch) (Some c.send_from_switch.new.switch) (grind (arith, get_or_default)) (grind arith) (grind arith)

pub invariant_of-self : goal.invariant_of-self
invariant_of-self g c = grind (arith, common_steps)

pub returns-in_default : goal.returns-in_default
returns-in_default g c = grind (arith, common_steps)

pub returns-then-send_from_switch : goal.returns-then-send_from_switch
returns-then-send_from_switch g c = grind (arith, common_steps)

pub returns-else-send_from_switch : goal.returns-else-send_from_switch
returns-else-send_from_switch g c = grind (arith, common_steps)
