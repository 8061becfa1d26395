use Rattle.std.proofs.Common.{◌≡◌, ℕ, ◌<◌, ◌≤◌, List, length, refl, sym, ◌∙◌, ap, subst, arith}
use Rattle.std.specs.Prelude.{Some, IfSome, slice_get}
use Rattle.ultra_msg.specs.declared.Request.{Request}
use Rattle.ultra_pni.specs.Interface.{Interface, empty_interface, SizedInterface}
use Rattle.ultra_isa.specs.{declared.Instr.Instr, Instruction.Site, Step.{Core, step_of}}
use Rattle.ultra_para.proofs.Sending.{pending_is_sent, can_deliver}
use Rattle.ultra_para.proofs.at_once.step_at_once.Goals as goal

-- what a step leaves in a new interface
interface_after : (s : Site) (program : List Instr) (core : Core) (i j : SizedInterface) → i ≡ record { interface = empty_interface; most_open = 1 } → j ≡ record i { interface = (step_of s i.most_open program core i.interface).interface }
    → j.interface ≡ (step_of s 1 program core empty_interface).interface
interface_after s program core i j new step = ap (λ (n : SizedInterface). n.interface) step ∙ ap (λ (n : SizedInterface). (step_of s n.most_open program core n.interface).interface) new

-- the request that leaves it is the one that the step sent
is_sent : (s : Site) (program : List Instr) (core : Core) (j : Interface) (r : Request) → j ≡ (step_of s 1 program core empty_interface).interface → Some r ≡ slice_get j.pending 0
    → (step_of s 1 program core empty_interface).sent ≡ Some r
is_sent s program core j r after leaves = sym (pending_is_sent s program core) ∙ (ap (λ (n : Interface). slice_get n.pending 0) (sym after) ∙ sym leaves)

-- its cell is one of the memory
cell_within : (s : Site) (program : List Instr) (core : Core) (i j : SizedInterface) (r : Request) (count : ℕ) → i ≡ record { interface = empty_interface; most_open = 1 }
    → j ≡ record i { interface = (step_of s i.most_open program core i.interface).interface } → Some r ≡ slice_get j.interface.pending 0
    → IfSome (step_of s i.most_open program core i.interface).sent (λ q. (q.pe ≡ s.pe) × (q.cell < s.all_cells)) → s.all_cells ≤ count → r.cell < count
cell_within s program core i j r count new step leaves own all =
    let sent = is_sent s program core j.interface r (interface_after s program core i j new step) leaves in
    let here = subst (λ (n : SizedInterface). IfSome (step_of s n.most_open program core n.interface).sent (λ q. (q.pe ≡ s.pe) × (q.cell < s.all_cells))) new own in
    let within = (rw sent at here).1 in
    omega arith

pub bounds-cells-cell : goal.bounds-cells-cell
bounds-cells-cell c =
    cell_within c.args.processor.now.site c.args.program.now c.args.processor.now.core _ _ _ _ c.new-interface.ensures c.step-step.ensures.interface c.in-Some.ensures.request c.step-step.ensures.own c.requires

pub bounds-cells-cell-2 : goal.bounds-cells-cell-2
bounds-cells-cell-2 c =
    cell_within c.args.processor.now.site c.args.program.now c.args.processor.now.core _ _ _ _ c.new-interface.ensures c.step-step.ensures.interface c.in-Some.ensures.request c.step-step.ensures.own c.requires

pub deliver-target-requires : goal.deliver-target-requires
deliver-target-requires c =
    let s = c.args.processor.now.site in
    let program = c.args.program.now in
    let core = c.args.processor.now.core in
    let after = interface_after s program core _ _ c.new-interface.ensures c.step-step.ensures.interface in
    let sent = is_sent s program core _ _ after c.in-Some.ensures.request in
    rw (c.leave.ensures.interface, after) (can_deliver s program core c.in-Some.request sent)

pub returns-in_default-target-clause-cells : goal.returns-in_default-target-clause-cells
returns-in_default-target-clause-cells c =
    let s = c.args.processor.now.site in
    let program = c.args.program.now in
    let core = c.args.processor.now.core in
    let after = interface_after s program core _ _ c.new-interface.ensures c.step-step.ensures.interface in
    let sent = is_sent s program core _ _ after c.in-Some.ensures.request in
    rw (sent, c.act-word.ensures) refl

pub returns-in_default-target-clause-report : goal.returns-in_default-target-clause-report
returns-in_default-target-clause-report c =
    let s = c.args.processor.now.site in
    let program = c.args.program.now in
    let core = c.args.processor.now.core in
    let after = interface_after s program core _ _ c.new-interface.ensures c.step-step.ensures.interface in
    let sent = is_sent s program core _ _ after c.in-Some.ensures.request in
    rw (sent, c.act-word.ensures) refl
