use Rattle.ultra_colib.specs.{ReadersWriters.{readers_writers, AreWritersAlone}, Parameters.rw_takes}
use Rattle.ultra_colib.proofs.{ReadersWriters.kept, AfterRun.law_after_run}
use Rattle.ultra_colib.proofs.runs.run_rw.Goals as goal

pub returns-clause-state : goal.returns-clause-state
returns-clause-state c = c.run.ensures.state (readers_writers c.args.writers c.args.rounds) c.rw_program.ensures.program

pub returns-clause-law : goal.returns-clause-law
returns-clause-law c =
    let refused = (c.run.ensures.parameters (rw_takes c.args.writers c.args.rounds) c.rw_program.ensures.parameters).1 in
    law_after_run c.args.config.now (readers_writers c.args.writers c.args.rounds) c.args.schedule.now (rw_takes c.args.writers c.args.rounds) AreWritersAlone c.run.result (returns-clause-state c) c.run.ensures.start refused (λ _. kept c.args.writers c.args.rounds) c.requires
