use Rattle.std.proofs.Common.{◌≡◌, ◌∙◌, ◌++◌, ap, arith, refl, sym}
use Rattle.std.proofs.lemmas.Result.{err_from_is_err_and}
use Rattle.ultra_msg.proofs.Parts.{at_error}
use Rattle.ultra_io.proofs.Writing.{◌then◌, writes_failed, writes_nothing}
use Rattle.ultra_serial.specs.OrderedRunState.{OrderedRunState, list_so_far, whole_list}
use Rattle.ultra_serial.proofs.Advancing.{nothing_listed}
use Rattle.ultra_commands.specs.Order.{order_text}
use Rattle.ultra_list.proofs.EntryLines.{prefix_of_text, text-append}
use Rattle.ultra_commands.proofs.serial_order.put_order.Goals as goal

pub loop-run-init : goal.loop-run-init
loop-run-init g c =
    let run = c.args.run.now in
    let none = nothing_listed run c.requires.start in
    record {
      same = refl;
      prefix = (whole_list run, ap (λ es. es ++ whole_list run) none);
      written = rw none (writes_nothing c.args.buffer.now);
    }

pub loop-run-preserved : goal.loop-run-preserved
loop-run-preserved g c =
    let made = c.if-branch.true in
    let before = c.loop-run.run in
    let now = c.advance.new.self in
    let so_far : list_so_far before ++ c.entries.result.now ≡ list_so_far now = ap (λ es. list_so_far before ++ es) c.entries.ensures ∙ c.in_ok-advance.ensures.entries made in
    let lines = text-append (list_so_far before) c.entries.result.now ∙ ap order_text so_far in
    let written = c.loop-run.invariant.written then c.put_entries.ensures in
    record {
      same = ap (λ (r : OrderedRunState). whole_list r) (c.in_ok-advance.ensures.cycle made) ∙ c.loop-run.invariant.same;
      prefix = rw c.loop-run.invariant.same at (c.in_ok-advance.ensures.prefix made);
      written = rw lines at written;
    }

pub returns-in_err-advance-clause-err : goal.returns-in_err-advance-clause-err
returns-in_err-advance-clause-err g c =
    let prefix = prefix_of_text (list_so_far c.loop-run.run) (whole_list c.args.run.now) c.loop-run.invariant.prefix in
    at_error c.from_residual.result (order_text (list_so_far c.loop-run.run), prefix, c.loop-run.invariant.written)

pub loop-run-smaller : goal.loop-run-smaller
loop-run-smaller g c =
    let made = c.if-branch.true in
    let cycle = c.in_ok-advance.ensures.cycle made in
    omega (arith, c.in_ok-advance.ensures.limit made, ap (λ (r : OrderedRunState). r.cycles) cycle, ap (λ (r : OrderedRunState). r.limit) cycle)

pub returns-in_err-advance-clause-ok : goal.returns-in_err-advance-clause-ok
returns-in_err-advance-clause-ok g c =
    let p = err_from_is_err_and c.from_residual.result c.from_residual.ensures.1 in
    rw p.1 tt

pub returns-in_err-advance-clause-sound : goal.returns-in_err-advance-clause-sound
returns-in_err-advance-clause-sound g c = at_error c.from_residual.result (sym c.has_failed.ensures ∙ c.loop-run-test.true)

pub returns-else-branch-clause-ok : goal.returns-else-branch-clause-ok
returns-else-branch-clause-ok g c =
    let all = c.in_ok-advance.ensures.over c.if-branch.false ∙ c.loop-run.invariant.same in
    rw (ap order_text all) at c.loop-run.invariant.written

pub returns-after-loop-run-clause-ok : goal.returns-after-loop-run-clause-ok
returns-after-loop-run-clause-ok g c =
    let (rest, all) = prefix_of_text (list_so_far c.loop-run.run) (whole_list c.args.run.now) c.loop-run.invariant.prefix in
    let written = writes_failed rest (sym c.has_failed.ensures ∙ c.loop-run-test.false) c.loop-run.invariant.written in
    rw all at written
