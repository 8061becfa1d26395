-- how each end is one of those of a sweep
use Rattle.std.proofs.Common.{◌≡◌, ◌∙◌, ◌<◌, ap, inl, inr, length, refl, subst, sym}
use Rattle.std.proofs.lemmas.Result.{err_from_is_err_and}
use Rattle.ultra_sweep.specs.Job.{texts_of}
use Rattle.ultra_sweep_command.specs.{declared.{SweepPlan.SweepPlan, fault.SweepFault.{SweepFault, TheVariants.{NoMemory, NoThread}}}, Shown.IsProgressShown, Output.job_output, Sweep.{failure_of, StopsJobs, refused, not_run, unwritten}, SeatResults.threads_of}
use Rattle.ultra_inputs.specs.Shown.{stream}
use Rattle.ultra_sweep_command.proofs.Sharing.{starts_threads}
use Rattle.ultra_sweep_command.proofs.sweep_jobs.Goals as goal

stops_jobs : (plan : SweepPlan) (fault : SweepFault) → (fault ≡ NoThread → 0 < threads_of plan) → StopsJobs plan.workers plan.progress (failure_of fault)
stops_jobs plan NoMemory some = inl refl
stops_jobs plan NoThread some = inr (refl, starts_threads plan.workers plan.progress (some refl))

pub returns-in_err-jobs-clause-err : goal.returns-in_err-jobs-clause-err
returns-in_err-jobs-clause-err g c =
    let p = err_from_is_err_and c.from_residual.result c.from_residual.ensures.1 in
    rw (p.1, p.2) (refused c.in_err-jobs.ensures.err (refl {a = g.O.Sink.taken c.args.out.now}) (refl {a = stream (g.E.Sink.taken c.args.err.now) (g.E.Sink.failures c.args.err.now)}))

pub returns-in-Ok-clause-err : goal.returns-in-Ok-clause-err
returns-in-Ok-clause-err g c =
    let jobs = c.in_ok-jobs.jobs.items in
    let same : c.as_slice.result.now ≡ jobs = c.as_slice.ensures.value in
    let given : c.in-Ok.gathered ≡ texts_of (job_output c.args.plan.now.output) jobs = c.in-Ok.ensures.ok ∙ ap (texts_of (job_output c.args.plan.now.output)) same in
    let wrote = c.write_output.ensures jobs given in
    let before = stream (g.E.Sink.taken c.args.err.now) (g.E.Sink.failures c.args.err.now) in
    let after = stream (g.E.Sink.taken c.run_jobs.new.err) (g.E.Sink.failures c.run_jobs.new.err) in
    unwritten jobs c.in_ok-jobs.ensures.ok refl
    (rw c.in-Err-write_output.is at wrote.err)
    (subst (λ js. IsProgressShown c.args.plan.now.progress (length js) (length js) before after) same c.in-Ok.ensures.all_shown)

pub returns-clause-err : goal.returns-clause-err
returns-clause-err g c =
    let jobs = c.in_ok-jobs.jobs.items in
    let same : c.as_slice.result.now ≡ jobs = c.as_slice.ensures.value in
    let some = c.in-Err.ensures.some_shown in
    let before = stream (g.E.Sink.taken c.args.err.now) (g.E.Sink.failures c.args.err.now) in
    let after = stream (g.E.Sink.taken c.run_jobs.new.err) (g.E.Sink.failures c.run_jobs.new.err) in
    not_run jobs some.0 c.in_ok-jobs.ensures.ok (subst (StopsJobs c.args.plan.now.workers c.args.plan.now.progress) (sym c.failure.ensures) (stops_jobs c.args.plan.now c.in-Err.fault c.in-Err.ensures.no_thread)) refl
    (subst (λ js. IsProgressShown c.args.plan.now.progress (length js) some.0 before after) same some.1)
