-- what it is to keep a log and entries by name
use Rattle.std.specs.Prelude.{ℕ, List}
use Rattle.ultra_serial.specs.{declared.records_by_name.RecordsByName.RecordsByName, ByName.list_named}
use Rattle.ultra_serial_law.specs.{declared.records.{LoggedIssue.LoggedIssue, LoggedAnswer.LoggedAnswer, Entry.Entry}, Log.Log, Legal.Has}

-- the lists of the names hold what the whole list does, each item under its own name
pub record AreByName {X : Type 0} (pe number : X → ℕ) (lists : ℕ → ℕ → List X)
    (whole : List X) : Type 0 where
  pub within : (p n : ℕ) (x : X) → Has (lists p n) x → Has whole x
  pub all : (x : X) → Has whole x → Has (lists (pe x) (number x)) x

abbrev pub AreIssuesByName : (ℕ → ℕ → List LoggedIssue) → List LoggedIssue → Type 0
AreIssuesByName lists whole =
    AreByName (λ (i : LoggedIssue). i.pe) (λ (i : LoggedIssue). i.number) lists whole

abbrev pub AreAnswersByName : (ℕ → ℕ → List LoggedAnswer) → List LoggedAnswer → Type 0
AreAnswersByName lists whole =
    AreByName (λ (a : LoggedAnswer). a.pe) (λ (a : LoggedAnswer). a.number) lists whole

abbrev pub AreEntriesByName : (ℕ → ℕ → List Entry) → List Entry → Type 0
AreEntriesByName lists whole = AreByName (λ (e : Entry). e.pe) (λ (e : Entry). e.number) lists whole

-- the records of a name
abbrev pub issues_named : RecordsByName → ℕ → ℕ → List LoggedIssue
issues_named b = list_named b.issues b.log.now.issues.items

abbrev pub answers_named : RecordsByName → ℕ → ℕ → List LoggedAnswer
answers_named b = list_named b.answers b.log.now.answers.items

abbrev pub entries_named : RecordsByName → ℕ → ℕ → List Entry
entries_named b = list_named b.entries b.list.now

pub record Holds (b : RecordsByName) (log : Log) (before : List Entry) : Type 0 where
  pub issues : AreIssuesByName (issues_named b) log.issues
  pub answers : AreAnswersByName (answers_named b) log.answers
  pub entries : AreEntriesByName (entries_named b) before
