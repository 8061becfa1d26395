use Rattle.std.proofs.Common.{arith, take, subst}
use Rattle.ultra_serial_law.specs.{Log.log_of, Legal.given}
use Rattle.ultra_serial.specs.LatestIssue.{IsNoneIssued, IsLatestIssue}
use Rattle.ultra_verdict.proofs.Verdicts.{late_line, some_issued, answered_early}
use Rattle.ultra_verdict.proofs.judging.Case.too_late.Goals as goal

pub unreachable-requires : goal.unreachable-requires
unreachable-requires c =
    let s = c.args.self.now in
    let none : IsNoneIssued (log_of s.log.now) (take c.args.index s.list.now) = rw c.in_default.is at c.in_ok-after.ensures in
    some_issued (given s.initial.now) (log_of s.log.now) (given s.cells.now) s.list.now c.args.index c.requires none

pub answer_cycle-requires : goal.answer_cycle-requires
answer_cycle-requires c =
    let s = c.args.self.now in
    let late : IsLatestIssue (log_of s.log.now) (take c.args.index s.list.now) c.in-Some.after c.in-Some.issued = rw c.in-Some.is at c.in_ok-after.ensures in
    rw c.as_slice.ensures.value (answered_early (given s.initial.now) (log_of s.log.now) (given s.cells.now) s.list.now c.args.index _ c.requires c.in-Some.after c.in-Some.issued late)

pub returns : goal.returns
returns c =
    let s = c.args.self.now in
    let k = c.args.index in
    let log = log_of s.log.now in
    let late : IsLatestIssue log (take k s.list.now) c.in-Some.after c.in-Some.issued = rw c.in-Some.is at c.in_ok-after.ensures in
    let answered = rw c.as_slice.ensures.value at c.answer_cycle.ensures.answered in (
      late_line (given s.initial.now) log (given s.cells.now) s.list.now k _ c.requires,
      answered,
      c.answer_cycle.ensures.early,
      subst (λ n. IsLatestIssue log (take n s.list.now) c.in-Some.after c.in-Some.issued) (omega arith) late,
    )
