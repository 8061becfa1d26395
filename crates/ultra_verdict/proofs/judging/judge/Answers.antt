use Rattle.std.proofs.{Common.{◌≡◌, sym, ap, subst, ◌∙◌}, lemmas.Result.IfOk-weaker}
use Rattle.ultra_model.specs.Trace.{cell_value, cycle_count, last_state}
use Rattle.ultra_model.proofs.Ranged.{in_range}
use Rattle.ultra_serial_law.specs.{Log.log_of, Legal.given, SerialList.history}
use Rattle.ultra_serial.specs.HasRun.{HasRun}
use Rattle.ultra_verdict.specs.Judged.{AreAnswersIssued, IsVerdict, IsVerdictFor}
use Rattle.ultra_verdict.proofs.{Runs.{answers_issued, log_to_end, cells_at_end}, Verdicts.same_verdict}
use Rattle.ultra_verdict.proofs.judging.judge.Goals as goal

pub verdict-requires : goal.verdict-requires
verdict-requires c =
    let v = c.args.config.now in
    let p = c.args.program.now in
    let log = rw c.cycles.ensures.value at c.in-Ok.ensures.log in
    subst AreAnswersIssued (sym log) (answers_issued v (in_range v c.initial.ensures.valid) p v.cycles)

pub returns : goal.returns
returns c =
    let v = c.args.config.now in
    let p = c.args.program.now in
    let list = c.args.list.now in
    let range = in_range v c.initial.ensures.valid in
    let run : HasRun v p v.cycles c.in-Ok.machine = rw c.cycles.ensures.value at c.in-Ok.ensures.machine in
    let initial = ap given c.initial.ensures.value in
    let log = (rw c.cycles.ensures.value at c.in-Ok.ensures.log) ∙ log_to_end v range p in
    let cells = ap given c.as_slice.ensures.value ∙ (c.in_ok-cells.ensures ∙ cells_at_end v range p c.in-Ok.machine run) in
    IfOk-weaker c.verdict.result (IsVerdict (given c.initial.result.now) (log_of c.in-Ok.log) (given c.as_slice.result.now) list) (IsVerdictFor v p list)
    (λ verdict h. same_verdict (given c.initial.result.now) (given v.initial) (log_of c.in-Ok.log) (history v p (cycle_count v p)).log (given c.as_slice.result.now) (cell_value v (last_state v p)) list verdict initial log cells h)
    c.verdict.ensures
