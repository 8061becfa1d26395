-- what a step adds to an interface in which no request waits
use Rattle.std.proofs.Common.{ℕ, ◌≡◌, ◌+◌, List, [], Bool, true, false, drop, refl, subst, sym}
use Rattle.std.specs.Prelude.{Option, Some, None, length, nat_lt, slice_get, ◌==◌}
use Rattle.ultra_msg.specs.declared.Request.{Request}
use Rattle.ultra_pni.specs.{declared.{OpenCell.OpenCell, Issue.{Issue, TheVariants.{Sent, CellOpen, Full}}}, Interface.{Interface, SizedInterface, issue_of, without_next}}
use Rattle.ultra_isa.specs.declared.{Instr.Instr, Step.Step, Activity.{Activity, TheVariants.{Running, Halted, Faulted}}}
use Rattle.ultra_isa.specs.declared.Step.TheVariants as step
use Rattle.ultra_isa.specs.Instruction.{Site, Effect, sets, goes_on_at, refers, waits, halts, effect}
use Rattle.ultra_isa.specs.Step.{Core, ProcessorState, StepResult, names_awaited, refers_as, waits_where, refers_where, does, runs_where, runs, runs_as, step_of}
use Rattle.ultra_model.specs.Phases.{issues_after}
use Rattle.ultra_unit_steps.specs.{declared.elements.ProcessingElement.ProcessingElement, Elements.step_at}
use Rattle.ultra_steps.specs.Copies.{stepped_copy}

-- an issue adds one request, and nothing else does
abbrev pub AddsWhere : Step → StepResult → Type 0
AddsWhere step.Issued t = (drop 1 t.interface.pending ≡ []) × ((k : ℕ) → issues_after k t.sent ≡ k + 1)
AddsWhere step.Done t = (t.interface.pending ≡ []) × ((k : ℕ) → issues_after k t.sent ≡ k)
AddsWhere step.Stalled t = (t.interface.pending ≡ []) × ((k : ℕ) → issues_after k t.sent ≡ k)
AddsWhere step.Halted t = (t.interface.pending ≡ []) × ((k : ℕ) → issues_after k t.sent ≡ k)
AddsWhere (step.Fault f) t = (t.interface.pending ≡ []) × ((k : ℕ) → issues_after k t.sent ≡ k)

abbrev pub Adds : StepResult → Type 0
Adds t = AddsWhere t.was t

module _ (s : Site) (most : ℕ) (o : List OpenCell) where
  abbrev blank : Interface
  blank = record { opened = o; pending = [] }

  adds_refers : (k : Core) (w : Request) (t : Option ℕ) (i : Issue) → Adds (refers_as k blank w t i)
  adds_refers k w t Sent = (refl, λ n. refl)
  adds_refers k w t CellOpen = (refl, λ n. refl)
  adds_refers k w t Full = (refl, λ n. refl)

  adds_where : (b : Bool) (k : Core) (w : Request) (t : Option ℕ) → Adds (refers_where s most b k blank w t)
  adds_where true k w t = adds_refers k w t (issue_of most blank w)
  adds_where false k w t = (refl, λ n. refl)

  adds_waits : (b : Bool) (k : Core) → Adds (waits_where b k blank)
  adds_waits true k = (refl, λ n. refl)
  adds_waits false k = (refl, λ n. refl)

  adds_does : (k : Core) (e : Effect) → Adds (does s most k blank e)
  adds_does k (sets d v) = (refl, λ n. refl)
  adds_does k (goes_on_at pc) = (refl, λ n. refl)
  adds_does k (refers a p t) = adds_where (nat_lt a s.all_cells) k record { pe = s.pe; cell = a; op = p } t
  adds_does k waits = adds_waits (length o == 0) k
  adds_does k halts = (refl, λ n. refl)

  adds_runs : (b : Bool) (k : Core) (n : Instr) → Adds (runs_where s most b k blank n)
  adds_runs true k n = (refl, λ n. refl)
  adds_runs false k n = adds_does k (effect s k.registers k.pc n)

  adds_at : (k : Core) (n : Option Instr) → Adds (runs s most k blank n)
  adds_at k None = (refl, λ n. refl)
  adds_at k (Some n) = adds_runs (names_awaited n blank) k n

  adds_as : (a : Activity) (k : Core) (n : Option Instr) → Adds (runs_as s most a k blank n)
  adds_as Running k n = adds_at k n
  adds_as Halted k n = (refl, λ n. refl)
  adds_as (Faulted f) k n = (refl, λ n. refl)

  adds_blank : (program : List Instr) (k : Core) → Adds (step_of s most program k blank)
  adds_blank program k = adds_as k.activity k (slice_get program k.pc)

pub adds : (s : Site) (most : ℕ) (i : Interface) → i.pending ≡ [] → (program : List Instr) (k : Core) → Adds (step_of s most program k i)
adds s most i none program k = subst (λ q. Adds (step_of s most program k record { opened = i.opened; pending = q })) (sym none) (adds_blank s most i.opened program k)

-- a copy that has issued a request, which is taken out at once
pub issued_copy : (program : List Instr) (e : ProcessingElement) → e.interface.interface.pending ≡ [] → (step_at program e).was ≡ step.Issued
    → (p : ProcessorState) → p ≡ record e.processor { core = (step_at program e).core } → (i j : SizedInterface) → j ≡ record e.interface { interface = (step_at program e).interface } → i ≡ without_next j
    → (n : ℕ) → n ≡ e.issued + 1 → record { processor = p; interface = i; issued = n } ≡ stepped_copy program e
issued_copy program e none was p p-is i j j-is i-is n n-is =
    let all = adds e.processor.site e.interface.most_open e.interface.interface none program e.processor.core in
    let one = subst (λ w. AddsWhere w (step_at program e)) was all in
    let count = one.1 e.issued in
    rw (p-is, i-is, j-is, n-is, one.0, count) refl
