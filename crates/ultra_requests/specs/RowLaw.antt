-- the rows of the table are those of the log
use Rattle.std.specs.Prelude.{◌≡◌, ◌<◌, ◌⊎◌, ℕ, List, true, Option, Some, None, AllPairs, slice_get}
use Rattle.ultra_isa.specs.declared.Instr.{Instr}
use Rattle.ultra_model.specs.{Machine.{Settings, size}, Ranges.AreInRange}
use Rattle.ultra_serial_law.specs.{declared.records.{LoggedIssue.LoggedIssue, LoggedAnswer.LoggedAnswer}, Legal.Has, Log.Log, SerialList.history}
use Rattle.ultra_requests.specs.RequestTable.{Row, is_answer_to, request_rows}

-- whether the first of two pairs of numbers is less: by the first numbers, and where these are the
-- same, by the second ones
abbrev pub IsLess : ℕ × ℕ → ℕ × ℕ → Type 0
IsLess x y = (x.0 < y.0) ⊎ ((x.0 ≡ y.0) × (x.1 < y.1))

-- whether an issue, with its answer if it has one, comes before another one. Those with an answer
-- come first, by the cycle of the answer and then by processing element. Those without one follow,
-- by processing element and then by number
abbrev pub AreInOrder : LoggedIssue → Option LoggedAnswer → LoggedIssue → Option LoggedAnswer
    → Type 0
AreInOrder i (Some a) j (Some b) = IsLess (a.cycle, a.pe) (b.cycle, b.pe)
AreInOrder i (Some a) j None = Unit {0}
AreInOrder i None j (Some b) = ⊥
AreInOrder i None j None = IsLess (i.pe, i.number) (j.pe, j.number)

abbrev pub ComesBefore : Row → Row → Type 0
ComesBefore r s = AreInOrder r.issue r.answer s.issue s.answer

pub record AreRowsOf (l : Log) (rows : List Row) : Type 0 where
  -- the issue of each row is in the log
  pub issued : (r : Row) → Has rows r → Has l.issues r.issue
  -- so is its answer, which has the issue's name
  pub answered : (r : Row) (a : LoggedAnswer) → Has rows r → r.answer ≡ Some a
      → Has l.answers a × (is_answer_to r.issue a ≡ true)
  -- each issue of the log is in a row, and each answer
  pub has_issue : (i : LoggedIssue) → Has l.issues i
      → (r : Row) × Has rows r × (r.issue ≡ i)
  pub has_answer : (a : LoggedAnswer) → Has l.answers a
      → (r : Row) × Has rows r × (r.answer ≡ Some a)
  -- no name occurs twice: each issue is in one row only, and so is each answer
  pub once : (j k : ℕ) (r s : Row) → slice_get rows j ≡ Some r → slice_get rows k ≡ Some s
      → r.issue.pe ≡ s.issue.pe → r.issue.number ≡ s.issue.number → j ≡ k
  -- each row comes before all later ones
  pub order : AllPairs ComesBefore rows

-- for all settings in their ranges, every program and every number of cycles
abbrev pub RequestLaw : Type 0
RequestLaw =
    (c : Settings) → AreInRange c → (program : List Instr) (n : ℕ)
    → let l = (history c program n).log in AreRowsOf l (request_rows (size c) l)
