-- a step doesn't depend on the requests that wait in the interface
use Rattle.std.proofs.Common.{ℕ, ◌≡◌, List, Bool, true, false, refl}
use Rattle.std.specs.Prelude.{Option, Some, None, length, nat_lt, slice_get, ◌==◌}
use Rattle.ultra_msg.specs.declared.Request.{Request}
use Rattle.ultra_pni.specs.{declared.{OpenCell.OpenCell, Issue.{Issue, TheVariants.{Sent, CellOpen, Full}}}, Interface.{Interface, issue_of}}
use Rattle.ultra_isa.specs.declared.{Instr.Instr, Activity.{Activity, TheVariants.{Running, Halted, Faulted}}}
use Rattle.ultra_isa.specs.Instruction.{Site, Effect, sets, goes_on_at, refers, waits, halts, effect}
use Rattle.ultra_isa.specs.Step.{Core, StepResult, names_awaited, refers_as, waits_where, refers_where, does, runs_where, runs, runs_as, step_of}

pub record AreAlike (s t : StepResult) : Type 0 where
  pub core : s.core ≡ t.core
  pub opened : s.interface.opened ≡ t.interface.opened
  pub sent : s.sent ≡ t.sent
  pub was : s.was ≡ t.was

module _ (s : Site) (most : ℕ) (o : List OpenCell) (q r : List Request) where
  abbrev one : Interface
  one = record { opened = o; pending = q }

  abbrev other : Interface
  other = record { opened = o; pending = r }

  alike_refers : (k : Core) (w : Request) (t : Option ℕ) (i : Issue) → AreAlike (refers_as k one w t i) (refers_as k other w t i)
  alike_refers k w t Sent = record { core = refl; opened = refl; sent = refl; was = refl }
  alike_refers k w t CellOpen = record { core = refl; opened = refl; sent = refl; was = refl }
  alike_refers k w t Full = record { core = refl; opened = refl; sent = refl; was = refl }

  alike_where : (b : Bool) (k : Core) (w : Request) (t : Option ℕ) → AreAlike (refers_where s most b k one w t) (refers_where s most b k other w t)
  alike_where true k w t = alike_refers k w t (issue_of most one w)
  alike_where false k w t = record { core = refl; opened = refl; sent = refl; was = refl }

  alike_waits : (b : Bool) (k : Core) → AreAlike (waits_where b k one) (waits_where b k other)
  alike_waits true k = record { core = refl; opened = refl; sent = refl; was = refl }
  alike_waits false k = record { core = refl; opened = refl; sent = refl; was = refl }

  alike_does : (k : Core) (e : Effect) → AreAlike (does s most k one e) (does s most k other e)
  alike_does k (sets d v) = record { core = refl; opened = refl; sent = refl; was = refl }
  alike_does k (goes_on_at pc) = record { core = refl; opened = refl; sent = refl; was = refl }
  alike_does k (refers a p t) = alike_where (nat_lt a s.all_cells) k record { pe = s.pe; cell = a; op = p } t
  alike_does k waits = alike_waits (length o == 0) k
  alike_does k halts = record { core = refl; opened = refl; sent = refl; was = refl }

  alike_runs : (b : Bool) (k : Core) (n : Instr) → AreAlike (runs_where s most b k one n) (runs_where s most b k other n)
  alike_runs true k n = record { core = refl; opened = refl; sent = refl; was = refl }
  alike_runs false k n = alike_does k (effect s k.registers k.pc n)

  alike_at : (k : Core) (n : Option Instr) → AreAlike (runs s most k one n) (runs s most k other n)
  alike_at k None = record { core = refl; opened = refl; sent = refl; was = refl }
  alike_at k (Some n) = alike_runs (names_awaited n one) k n

  alike_as : (a : Activity) (k : Core) (n : Option Instr) → AreAlike (runs_as s most a k one n) (runs_as s most a k other n)
  alike_as Running k n = alike_at k n
  alike_as Halted k n = record { core = refl; opened = refl; sent = refl; was = refl }
  alike_as (Faulted f) k n = record { core = refl; opened = refl; sent = refl; was = refl }

  pub alike : (program : List Instr) (k : Core) → AreAlike (step_of s most program k one) (step_of s most program k other)
  alike program k = alike_as k.activity k (slice_get program k.pc)
