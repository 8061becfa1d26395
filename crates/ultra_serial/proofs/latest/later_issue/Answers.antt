use Rattle.std.proofs.Common.{◌≡◌, arith, sym, ◌∙◌}
use Rattle.ultra_serial.specs.LatestIssue.{first_cycle_after}
use Rattle.ultra_serial.proofs.LaterIssues.{issued_later, issued_earlier}
use Rattle.ultra_serial.proofs.latest.later_issue.Goals as goal

pub returns-then-from-after : goal.returns-then-from-after
returns-then-from-after c = λ log before own h.
    let from = c.first_cycle_after-from.ensures.value in
    issued_later log before c.args.entry.now c.args.issues.now own c.after_issues-after.result c.after_issues-after.ensures.above c.args.latest h (omega (arith, from)) (rw from at c.after_issues-after.ensures.reached)

pub returns-else-from-after : goal.returns-else-from-after
returns-else-from-after c = λ log before own h.
    let from = c.first_cycle_after-from.ensures.value in
    issued_earlier log before c.args.entry.now c.args.issues.now own c.after_issues-after.result c.after_issues-after.ensures.above c.args.latest h (omega (arith, from))
