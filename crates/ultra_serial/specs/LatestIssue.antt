-- the entry of a list that was issued last
use Rattle.std.specs.Prelude.{◌≡◌, ◌<◌, ◌≤◌, ◌+◌, ℕ, List, Option, Some, None, slice_get}
use Rattle.ultra_serial_law.specs.{declared.records.{LoggedIssue.LoggedIssue, Entry.Entry}, Log.Log, Legal.{Has, IsIssueNamed}}

module _ (log : Log) (list : List Entry) where
  -- the entry was issued in this cycle, no entry later, and none before it in the list so late
  pub record IsLatestIssue (e : Entry) (cycle : ℕ) : Type 0 where
    pub index : ℕ
    pub entry : slice_get list index ≡ Some e
    pub issue : LoggedIssue
    pub issued : Has log.issues issue
    pub named : IsIssueNamed e issue
    pub in_cycle : issue.cycle ≡ cycle
    pub latest : (f : Entry) (i : LoggedIssue) → Has list f → Has log.issues i → IsIssueNamed f i
        → i.cycle ≤ cycle
    pub first : (k : ℕ) (f : Entry) (i : LoggedIssue) → k < index → slice_get list k ≡ Some f
        → Has log.issues i → IsIssueNamed f i → i.cycle < cycle

  -- no entry was issued
  abbrev pub IsNoneIssued : Type 0
  IsNoneIssued =
      (f : Entry) (i : LoggedIssue) → Has list f → Has log.issues i → IsIssueNamed f i → ⊥

  abbrev pub IsLatestIssueOf : Option (Entry × ℕ) → Type 0
  IsLatestIssueOf None = IsNoneIssued
  IsLatestIssueOf (Some (e, cycle)) = IsLatestIssue e cycle

-- the issues of an entry's name
pub record AreIssuesOf (log : Log) (e : Entry) (issues : List LoggedIssue) : Type 0 where
  pub within : (i : LoggedIssue) → Has issues i → Has log.issues i
  pub all : (i : LoggedIssue) → Has log.issues i → IsIssueNamed e i → Has issues i

-- the first cycle after that of the latest issue
abbrev pub first_cycle_after : Option (Entry × ℕ) → ℕ
first_cycle_after None = 0
first_cycle_after (Some (e, cycle)) = cycle + 1
