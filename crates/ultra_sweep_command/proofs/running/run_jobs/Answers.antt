use Rattle.std.proofs.Common.{length}
use Rattle.std.specs.Prelude.{Result, Ok, Err, OnErr}
use Rattle.ultra_sweep_command.proofs.Showing.{is-shown}
use Rattle.ultra_sweep_command.proofs.running.run_jobs.Goals as goal

-- what is true in any case is true where there is an error
on-err : {A B : Type 0} (r : Result A B) (P : Type 0) → P → OnErr r P
on-err (Ok x) P p = tt
on-err (Err x) P p = p

pub returns-in_err-seat-clause-some_shown : goal.returns-in_err-seat-clause-some_shown
returns-in_err-seat-clause-some_shown g c =
    let m = c.run_together-seat_results.result.1 in
    let done = c.run_together-seat_results.ensures in
    on-err c.from_residual.result _ (m.last, is-shown c.args.plan.now.progress (length c.args.jobs.now) m _ _ done.count done.shown done.quiet)

pub returns-in_err-gathered-clause-some_shown : goal.returns-in_err-gathered-clause-some_shown
returns-in_err-gathered-clause-some_shown g c =
    let m = c.run_together-seat_results.result.1 in
    let done = c.run_together-seat_results.ensures in
    on-err c.from_residual-in_err-gathered.result _ (m.last, is-shown c.args.plan.now.progress (length c.args.jobs.now) m _ _ done.count done.shown done.quiet)
