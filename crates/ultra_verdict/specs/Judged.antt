-- which verdict a list gets for a run
use Rattle.std.specs.Prelude.{◌≡◌, ◌≢◌, ◌≤◌, ◌+◌, ◌-◌, ℕ, List, Bool, true, false, Some, take, slice_get}
use Rattle.ultra_msg.specs.{Act.act, declared.Reply.Reply}
use Rattle.ultra_isa.specs.declared.Instr.{Instr}
use Rattle.ultra_model.specs.{Machine.Settings, Trace.{cell_value, cycle_count, last_state}}
use Rattle.ultra_serial_law.specs.{declared.records.{LoggedIssue.LoggedIssue, LoggedAnswer.LoggedAnswer, Entry.Entry}, Log.Log, SerialList.history}
use Rattle.ultra_serial_law.specs.Legal.{Cells, given, Has, IsAnswerTo, IsIssueOf, IsLegal}
use Rattle.ultra_serial.specs.{declared.checking.{BreachKind.BreachKind, CheckFault.TheVariants.Breach}, Breach.{cells_past, ExplainsCheckFault}, LatestIssue.IsLatestIssue}
use Rattle.ultra_serial.specs.declared.checking.BreachKind.TheVariants as kind
use Rattle.ultra_verdict.specs.declared.verdict.Verdict.{Verdict}
use Rattle.ultra_verdict.specs.declared.verdict.Verdict.TheVariants.{Legal, NotIssued, Repeated, WrongReplay, WrongAnswer, TooLate, Missing, WrongCell}

-- ---- answers of a run
module _ (answers : List LoggedAnswer) (e : Entry) where
  -- the entry is answered otherwise: not by its reply, but by this one
  pub record IsAnsweredOtherwise (reply : Reply) : Type 0 where
    pub answer : LoggedAnswer
    pub logged : Has answers answer
    pub named : IsAnswerTo e answer
    pub same : answer.reply ≡ reply
    pub other : reply ≢ e.reply

  -- the entry is answered in this cycle
  pub record IsAnsweredIn (cycle : ℕ) : Type 0 where
    pub answer : LoggedAnswer
    pub logged : Has answers answer
    pub named : IsAnswerTo e answer
    pub same : answer.cycle ≡ cycle

-- the answer is that of the issued request
abbrev pub IsIssueAnswered : LoggedIssue → LoggedAnswer → Type 0
IsIssueAnswered i a = (i.pe ≡ a.pe) × (i.number ≡ a.number)

-- each answer is that of an issued request
abbrev pub AreAnswersIssued : Log → Type 0
AreAnswersIssued log =
    (a : LoggedAnswer) → Has log.answers a
    → (i : LoggedIssue) × Has log.issues i × IsIssueAnswered i a

-- ---- verdicts
module _ (initial : Cells) (log : Log) (final : Cells) (list : List Entry) where
  -- the list isn't legal, and this is its first breach
  abbrev pub IsFirstWrong : BreachKind → ℕ → Type 0
  IsFirstWrong kind index = ExplainsCheckFault initial log final list (Breach kind index)

  -- so it is with the entry of a line; lines count from 1
  pub record IsWrongLine (kind : BreachKind) (line : ℕ) (e : Entry) : Type 0 where
    pub index : ℕ
    pub counted : line ≡ index + 1
    pub entry : slice_get list index ≡ Some e
    pub first : IsFirstWrong kind index

  -- the entries before a line
  abbrev pub before_line : ℕ → List Entry
  before_line line = take (line - 1) list

  -- the run has issued this request and answered it so, and it isn't in the list
  pub record IsMissing (e : Entry) : Type 0 where
    pub index : ℕ
    pub answer : LoggedAnswer
    pub logged : slice_get log.answers index ≡ Some answer
    pub named : IsAnswerTo e answer
    pub reply : e.reply ≡ answer.reply
    pub issue : LoggedIssue
    pub issued : Has log.issues issue
    pub request : IsIssueOf e issue
    pub first : IsFirstWrong kind.Missing index

  -- the verdict says which, with the values that show it
  abbrev pub IsVerdict : Verdict → Type 0
  IsVerdict Legal = IsLegal initial log final list
  IsVerdict (NotIssued line e) = IsWrongLine kind.NotIssued line e
  IsVerdict (Repeated line e) = IsWrongLine kind.Repeated line e
  IsVerdict (WrongReplay line e reply) =
      IsWrongLine kind.WrongReplay line e
      × (reply ≡ (act e.op (cells_past initial (before_line line) e.cell)).1)
  IsVerdict (WrongAnswer line e reply) =
      IsWrongLine kind.WrongAnswer line e × IsAnsweredOtherwise log.answers e reply
  IsVerdict (TooLate line e answered after issued) =
      IsWrongLine kind.TooLate line e × IsAnsweredIn log.answers e answered
      × (answered ≤ issued) × IsLatestIssue log (before_line line) after issued
  IsVerdict (Missing e) = IsMissing e
  IsVerdict (WrongCell cell machine left) =
      IsFirstWrong kind.WrongCell cell
      × (machine ≡ final cell) × (left ≡ cells_past initial list cell)

abbrev pub is_legal : Verdict → Bool
is_legal Legal = true
is_legal (NotIssued line e) = false
is_legal (Repeated line e) = false
is_legal (WrongReplay line e reply) = false
is_legal (WrongAnswer line e reply) = false
is_legal (TooLate line e answered after issued) = false
is_legal (Missing e) = false
is_legal (WrongCell cell machine left) = false

-- the cycles of the trace of a run
module _ (c : Settings) (program : List Instr) (list : List Entry) where
  -- the list explains what they have issued and answered, and the cells after them
  abbrev pub IsLegalFor : Type 0
  IsLegalFor =
      IsLegal (given c.initial) (history c program (cycle_count c program)).log
      (cell_value c (last_state c program)) list

  -- the verdict on the list for them
  abbrev pub IsVerdictFor : Verdict → Type 0
  IsVerdictFor v =
      IsVerdict (given c.initial) (history c program (cycle_count c program)).log
      (cell_value c (last_state c program)) list v
