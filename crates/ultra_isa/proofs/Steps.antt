-- what every step says of the request that it issued
use Rattle.std.proofs.Common.{◌≡◌, ℕ, ◌-◌, ◌<◌, ◌↔◌, List, [], ◌∷◌, ◌++◌, length, Bool, true, false, refl, sym, arith}
use Rattle.std.specs.Prelude.{Option, Some, None, IsSome, slice_get, nat_lt, ◌==◌, if◌then◌else◌}
use Rattle.std.proofs.{lemmas.{Grind.common_steps, Option.slice_get_read, List.length-append}, Math.Seq.get_or-append_seam}
use Rattle.ultra_msg.specs.declared.Request.{Request}
use Rattle.ultra_pni.specs.{declared.Issue.{Issue, TheVariants.{Sent, CellOpen, Full}}, Interface.{Interface, is_open, issue_of, after_issue}}
use Rattle.ultra_isa.specs.declared.{Instr.Instr, MachineFault.{MachineFault, TheVariants.{AddressOutOfRange, PastEnd}}, Activity.Activity, Step.Step}
use Rattle.ultra_isa.specs.declared.Activity.TheVariants as activity
use Rattle.ultra_isa.specs.declared.Step.TheVariants as step
use Rattle.ultra_isa.specs.Instruction.{Site, Effect, sets, goes_on_at, refers, waits, halts, effect}
use Rattle.ultra_isa.specs.Step.{Core, StepResult, stays, faults, refers_as, refers_where, waits_where, does, runs_where, runs, runs_as, step_of, names_awaited}

-- the last of a list
abbrev pub newest : List Request → Option Request
newest rs = slice_get rs (length rs - 1)

-- what a processing element with at most n open cells sends. It names the processing element and a
-- cell of the memory, which wasn't open and for which there was room. The interface after it is
-- that of the issue. If nothing is sent, it is that before
abbrev pub SendsInto : Site → ℕ → Interface → Interface → Option Request → Type 0
SendsInto s most_open i j None = j ≡ i
SendsInto s most_open i j (Some r) =
    (r.pe ≡ s.pe)
    × (r.cell < s.all_cells)
    × (is_open r.cell i.opened ≡ false)
    × (length i.opened < most_open)
    × ((target : Option ℕ) × (j ≡ after_issue i r target Sent))

-- a step of a processing element whose interface was i
pub record IsStepFrom (s : Site) (most_open : ℕ) (i : Interface) (t : StepResult) : Type 0 where
  pub sent : IsSome t.sent ↔ (t.was ≡ step.Issued)
  pub newest : t.was ≡ step.Issued → t.sent ≡ newest t.interface.pending
  pub into : SendsInto s most_open i t.interface t.sent

-- an issue is sent only where the cell isn't open and there is room
sent_where : (open_already within : Bool) → (if open_already then CellOpen else if within then Sent else Full) ≡ Sent → (open_already ≡ false) × (within ≡ true)
sent_where true within e = cc
sent_where false true e = (refl, refl)
sent_where false false e = cc

module _ (s : Site) (most_open : ℕ) (i : Interface) where
  -- where nothing is sent
  quiet : (was : Step) (c : Core) → (was ≡ step.Issued → ⊥) → IsStepFrom s most_open i (stays was c i)
  quiet was c h = record { sent = (λ n. cc, λ e. absurd (h e)); newest = λ e. absurd (h e); into = refl }

  done : (c : Core) → IsStepFrom s most_open i (stays step.Done c i)
  done c = quiet step.Done c (λ e. cc)

  stalled : (c : Core) → IsStepFrom s most_open i (stays step.Stalled c i)
  stalled c = quiet step.Stalled c (λ e. cc)

  faulted : (f : MachineFault) (c : Core) → IsStepFrom s most_open i (faults f c i)
  faulted f c = quiet (step.Fault f) _ (λ e. cc)

  -- what an issue that is sent says
  room : (r : Request) → issue_of most_open i r ≡ Sent → (is_open r.cell i.opened ≡ false) × (length i.opened < most_open)
  room r e = let cases = sent_where (is_open r.cell i.opened) (nat_lt (length i.opened) most_open) e in (cases.0, grind (arith, common_steps, cases.1))

  last_of : (rs : List Request) (r : Request) → Some r ≡ newest (rs ++ r ∷ [])
  last_of rs r =
      let long = length-append rs (r ∷ []) in
      let last : length (rs ++ r ∷ []) - 1 ≡ length rs = omega arith in
      sym (slice_get_read (rs ++ r ∷ []) (length (rs ++ r ∷ [])) (length (rs ++ r ∷ []) - 1) r refl (omega arith) (rw (last, get_or-append_seam) refl))

  issued : (c : Core) (r : Request) (target : Option ℕ) → r.pe ≡ s.pe → r.cell < s.all_cells → (a : Issue) → issue_of most_open i r ≡ a → IsStepFrom s most_open i (refers_as c i r target a)
  issued c r target p l Sent e = record { sent = (λ n. refl, λ n. refl); newest = λ n. last_of i.pending r; into = (p, l, (room r e).0, (room r e).1, (target, refl)) }
  issued c r target p l CellOpen e = stalled c
  issued c r target p l Full e = stalled c

  referred : (c : Core) (r : Request) (target : Option ℕ) → r.pe ≡ s.pe → (b : Bool) → nat_lt r.cell s.all_cells ≡ b → IsStepFrom s most_open i (refers_where s most_open b c i r target)
  referred c r target p true e = issued c r target p (grind (arith, common_steps)) (issue_of most_open i r) refl
  referred c r target p false e = faulted AddressOutOfRange c

  waited : (c : Core) (b : Bool) → IsStepFrom s most_open i (waits_where b c i)
  waited c true = done _
  waited c false = stalled c

  did : (c : Core) (e : Effect) → IsStepFrom s most_open i (does s most_open c i e)
  did c (sets d v) = done _
  did c (goes_on_at pc) = done _
  did c (refers a o target) = referred c record { pe = s.pe; cell = a; op = o } target refl (nat_lt a s.all_cells) refl
  did c waits = waited c (length i.opened == 0)
  did c halts = done _

  ran_where : (c : Core) (n : Instr) (b : Bool) → IsStepFrom s most_open i (runs_where s most_open b c i n)
  ran_where c n true = stalled c
  ran_where c n false = did c (effect s c.registers c.pc n)

  ran : (c : Core) (n : Option Instr) → IsStepFrom s most_open i (runs s most_open c i n)
  ran c None = faulted PastEnd c
  ran c (Some n) = ran_where c n (names_awaited n i)

  ran_as : (a : Activity) (c : Core) (n : Option Instr) → IsStepFrom s most_open i (runs_as s most_open a c i n)
  ran_as activity.Running c n = ran c n
  ran_as activity.Halted c n = quiet step.Halted c (λ e. cc)
  ran_as (activity.Faulted f) c n = quiet step.Halted c (λ e. cc)

  pub step_is : (program : List Instr) (c : Core) → IsStepFrom s most_open i (step_of s most_open program c i)
  step_is program c = ran_as c.activity c (slice_get program c.pc)
