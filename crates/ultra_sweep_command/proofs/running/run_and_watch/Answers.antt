use Rattle.ultra_sweep_command.proofs.running.run_and_watch.Goals as goal
use Rattle.ultra_sweep_command.proofs.running.run_and_watch.Goals.{then-plan, else-plan}

pub returns-in_err-finish-clause-shown : goal.returns-in_err-finish-clause-shown
returns-in_err-finish-clause-shown g c start shown =
    elim c.if-plan.branch [
      | then-plan w ↦ rw (w.meter-is, w.err-is) (w.watch.ensures.shown start shown)
      | else-plan w ↦ rw (w.meter-is, w.err-is) shown
    ]

pub returns-clause-shown : goal.returns-clause-shown
returns-clause-shown g c start shown =
    elim c.if-plan.branch [
      | then-plan w ↦ rw (w.meter-is, w.err-is) (w.watch.ensures.shown start shown)
      | else-plan w ↦ rw (w.meter-is, w.err-is) shown
    ]
