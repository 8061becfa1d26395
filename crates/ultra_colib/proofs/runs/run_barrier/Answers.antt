use Rattle.ultra_colib.specs.{Barrier.{barrier, AreInStep}, Parameters.barrier_takes}
use Rattle.ultra_colib.proofs.{Barrier.kept, Given.rounds_taken, AfterRun.law_after_run}
use Rattle.ultra_colib.proofs.runs.run_barrier.Goals as goal

pub returns-clause-state : goal.returns-clause-state
returns-clause-state c = c.run.ensures.state (barrier c.args.rounds) c.barrier_program.ensures.program

pub returns-clause-law : goal.returns-clause-law
returns-clause-law c =
    let refused = (c.run.ensures.parameters (barrier_takes c.args.rounds) c.barrier_program.ensures.parameters).1 in
    law_after_run c.args.config.now (barrier c.args.rounds) c.args.schedule.now (barrier_takes c.args.rounds) AreInStep c.run.result (returns-clause-state c) c.run.ensures.start refused (λ t. let r = rounds_taken c.args.rounds t in kept c.args.rounds r.0 r.1) c.requires
