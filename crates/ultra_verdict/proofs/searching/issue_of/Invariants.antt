use Rattle.std.proofs.Common.{◌≡◌, ℕ, ◌<◌, Some}
use Rattle.std.specs.Prelude.{slice_get}
use Rattle.ultra_serial_law.specs.declared.records.LoggedIssue.{LoggedIssue}
use Rattle.ultra_verdict.specs.Judged.{IsIssueAnswered}
use Rattle.ultra_verdict.proofs.searching.issue_of.Given as goal

abbrev pub invariant-loop-issue : goal.invariant-loop-issue
invariant-loop-issue l = (k : ℕ) (i : LoggedIssue) → k < l.issue-index → slice_get l.issues k ≡ Some i → IsIssueAnswered i l.answer → ⊥
