use Rattle.ultra_serial_law.specs.{Log.log_of, Legal.given}
use Rattle.ultra_verdict.proofs.Verdicts.{missing_at, missing_request}
use Rattle.ultra_verdict.proofs.judging.Case.missing.Goals as goal

pub issue_of-issue-requires : goal.issue_of-issue-requires
issue_of-issue-requires c =
    let s = c.args.self.now in
    let at = missing_at (given s.initial.now) (log_of s.log.now) (given s.cells.now) s.list.now c.args.index c.requires.first c.index.result.now c.index.ensures in
    rw c.as_slice.ensures.value (c.requires.issued c.index.result.now (c.args.index, at))

pub returns : goal.returns
returns c =
    let s = c.args.self.now in
    let issued = rw c.as_slice.ensures.value at c.issue_of-issue.ensures.issued in
    missing_request (given s.initial.now) (log_of s.log.now) (given s.cells.now) s.list.now c.args.index c.requires.first c.index.result.now c.index.ensures c.issue_of-issue.result issued c.issue_of-issue.ensures.named
