-- the verdict on a case: a list, and the run by which it is judged
use Rattle.std.specs.Prelude.{ℕ}
use Rattle.ultra_serial_law.specs.{Log.log_of, Legal.given}
use Rattle.ultra_serial.specs.declared.checking.BreachKind.{BreachKind}
use Rattle.ultra_verdict.specs.{declared.{verdict.Verdict.Verdict, judging.Case.Case}, Judged.{IsFirstWrong, IsVerdict}}

abbrev pub IsFirstWrongOf : Case → BreachKind → ℕ → Type 0
IsFirstWrongOf c =
    IsFirstWrong (given c.initial.now) (log_of c.log.now) (given c.cells.now) c.list.now

abbrev pub IsVerdictOf : Case → Verdict → Type 0
IsVerdictOf c =
    IsVerdict (given c.initial.now) (log_of c.log.now) (given c.cells.now) c.list.now
