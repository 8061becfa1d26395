use Rattle.std.proofs.{Common.{arith, take, get_or, sym, subst}, lemmas.List.{take_more, take_all}}
use Rattle.ultra_serial_law.specs.Log.{log_of}
use Rattle.ultra_serial.specs.{ByName.list_named, LatestIssue.IsLatestIssueOf}
use Rattle.ultra_serial.proofs.{Searching.some_entry, LaterIssues.kept_issues}
use Rattle.ultra_serial.proofs.latest.latest_issued_entry.Goals as goal

pub loop-entry-preserved : goal.loop-entry-preserved
loop-entry-preserved c =
    let xs = c.args.list.now in
    let n = c.loop-entry.entry-index in
    let log = log_of c.args.log.now in
    let named = rw c.as_slice-issues.ensures.value at c.in_ok-named.ensures in
    let own = kept_issues (list_named c.in_ok-named.named log.issues) log named (get_or xs n some_entry) c.get.result.now (rw c.as_slice-issues.ensures.value at c.get.ensures) in
    subst (λ us. IsLatestIssueOf log us c.later_issue-latest.result) (sym (take_more xs n some_entry (omega arith)))
    (c.later_issue-latest.ensures log (take n xs) own c.loop-entry.invariant)

pub returns : goal.returns
returns c =
    subst (λ us. IsLatestIssueOf (log_of c.args.log.now) us c.loop-entry.latest) (take_all c.loop-entry.entry-index c.args.list.now (omega arith)) c.loop-entry.invariant
