use Rattle.ultra_colib.specs.{Queue.{queue, AreItemsOnce}, Parameters.queue_takes}
use Rattle.ultra_colib.proofs.{Queue.kept, Given.queue_taken, AfterRun.law_after_run}
use Rattle.ultra_colib.proofs.runs.run_queue.Goals as goal

pub returns-clause-state : goal.returns-clause-state
returns-clause-state c = c.run.ensures.state (queue c.args.log_size c.args.rounds) c.queue_program.ensures.program

pub returns-clause-law : goal.returns-clause-law
returns-clause-law c =
    let refused = (c.run.ensures.parameters (queue_takes c.args.log_size c.args.rounds) c.queue_program.ensures.parameters).1 in
    law_after_run c.args.config.now (queue c.args.log_size c.args.rounds) c.args.schedule.now (queue_takes c.args.log_size c.args.rounds) (AreItemsOnce c.args.log_size c.args.rounds) c.run.result (returns-clause-state c) c.run.ensures.start refused (λ t. let r = queue_taken c.args.log_size c.args.rounds t in kept c.args.log_size c.args.rounds r.0 r.1 r.2) c.requires
