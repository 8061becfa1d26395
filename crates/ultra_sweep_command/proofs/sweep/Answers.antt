-- how a sweep that fails is reported
use Rattle.std.proofs.Common.{arith, ◌∙◌, refl, sym}
use Rattle.ultra_settings.specs.JobsText.{all_paths}
use Rattle.ultra_inputs.specs.Shown.{stream}
use Rattle.ultra_sweep_command.specs.Sweep.{unlisted, listed}
use Rattle.ultra_sweep_command.proofs.Counted.{unlisted_none, never_done}
use Rattle.ultra_sweep_command.proofs.sweep.Goals as goal

pub returns-in-Err-clause-failed : goal.returns-in-Err-clause-failed
returns-in-Err-clause-failed g c ne =
    let before = stream (g.E.Sink.taken c.args.err.now) (g.E.Sink.failures c.args.err.now) in
    let given_up = c.report_failure.ensures in
    record {
      failure = c.in-Err.failure;
      shown = before;
      same_status = sym given_up.status;
      why = unlisted c.in-Err.ensures.err (refl {a = g.O.Sink.taken c.args.out.now}) (refl {a = before});
      report = record { begun = given_up.prefix; whole = given_up.whole };
      read_counted = c.in-Err.ensures.counted;
    }

pub returns-clause-failed : goal.returns-clause-failed
returns-clause-failed g c ne =
    let gave = c.in-Ok.ensures.ok in
    let why = c.in-Err-sweep_jobs.ensures in
    let given_up = c.report_failure-in-Err-sweep_jobs.ensures in
    record {
      failure = c.in-Err-sweep_jobs.failure;
      shown = stream (g.E.Sink.taken c.sweep_jobs.new.err) (g.E.Sink.failures c.sweep_jobs.new.err);
      same_status = sym given_up.status;
      why = listed gave.text (all_paths c.in-Ok.list.items) gave.given (rw gave.files at (rw c.as_slice.ensures.value at why.err));
      report = record { begun = given_up.prefix; whole = given_up.whole };
      read_counted = rw c.in-Ok.ensures.still at why.read_counted;
    }

pub returns-in-Err-clause-counted : goal.returns-in-Err-clause-counted
returns-in-Err-clause-counted g c ne =
    let none = unlisted_none _ _ _ _ c.in-Err.ensures.err in
    (c.in-Err.failure, sym c.report_failure.ensures.status, omega (arith, none))

pub returns-clause-counted : goal.returns-clause-counted
returns-clause-counted g c ne =
    (c.in-Err-sweep_jobs.failure, sym c.report_failure-in-Err-sweep_jobs.ensures.status, c.in-Err-sweep_jobs.ensures.write_counted)

pub returns-in-Err-clause-done : goal.returns-in-Err-clause-done
returns-in-Err-clause-done g c z = absurd (never_done c.in-Err.failure (sym c.report_failure.ensures.status ∙ z))

pub returns-in-Err-clause-read_still : goal.returns-in-Err-clause-read_still
returns-in-Err-clause-read_still g c z = absurd (never_done c.in-Err.failure (sym c.report_failure.ensures.status ∙ z))

pub returns-in-Err-clause-still : goal.returns-in-Err-clause-still
returns-in-Err-clause-still g c z = refl

pub returns-clause-done : goal.returns-clause-done
returns-clause-done g c z = absurd (never_done c.in-Err-sweep_jobs.failure (sym c.report_failure-in-Err-sweep_jobs.ensures.status ∙ z))

pub returns-clause-read_still : goal.returns-clause-read_still
returns-clause-read_still g c z = absurd (never_done c.in-Err-sweep_jobs.failure (sym c.report_failure-in-Err-sweep_jobs.ensures.status ∙ z))

pub returns-clause-still : goal.returns-clause-still
returns-clause-still g c z = absurd (never_done c.in-Err-sweep_jobs.failure (sym c.report_failure-in-Err-sweep_jobs.ensures.status ∙ z))

-- a sweep that succeeds
pub returns-in-Ok-sweep_jobs-clause-done : goal.returns-in-Ok-sweep_jobs-clause-done
returns-in-Ok-sweep_jobs-clause-done g c z =
    let gave = c.in-Ok.ensures.ok in
    let swept = c.in-Ok-sweep_jobs.ensures.ok in
    record {
      text = gave.text;
      paths = all_paths c.in-Ok.list.items;
      listed = gave.given;
      swept = rw gave.files at (rw c.as_slice.ensures.value at swept);
    }

pub returns-in-Ok-sweep_jobs-clause-failed : goal.returns-in-Ok-sweep_jobs-clause-failed
returns-in-Ok-sweep_jobs-clause-failed g c ne = absurd (ne refl)

pub returns-in-Ok-sweep_jobs-clause-read_still : goal.returns-in-Ok-sweep_jobs-clause-read_still
returns-in-Ok-sweep_jobs-clause-read_still g c z = c.in-Ok-sweep_jobs.ensures.read_still ∙ c.in-Ok.ensures.still

pub returns-in-Ok-sweep_jobs-clause-still : goal.returns-in-Ok-sweep_jobs-clause-still
returns-in-Ok-sweep_jobs-clause-still g c z = c.in-Ok-sweep_jobs.ensures.write_still

pub returns-in-Ok-sweep_jobs-clause-counted : goal.returns-in-Ok-sweep_jobs-clause-counted
returns-in-Ok-sweep_jobs-clause-counted g c ne = absurd (ne refl)
