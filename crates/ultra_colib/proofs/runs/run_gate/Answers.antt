use Rattle.ultra_colib.specs.{Gate.{gate, AreFewInside}, Parameters.gate_takes}
use Rattle.ultra_colib.proofs.{Gate.kept, AfterRun.law_after_run}
use Rattle.ultra_colib.proofs.runs.run_gate.Goals as goal

pub returns-clause-state : goal.returns-clause-state
returns-clause-state c = c.run.ensures.state (gate c.args.bound c.args.rounds) c.gate_program.ensures.program

pub returns-clause-law : goal.returns-clause-law
returns-clause-law c =
    let refused = (c.run.ensures.parameters (gate_takes c.args.bound c.args.rounds) c.gate_program.ensures.parameters).1 in
    law_after_run c.args.config.now (gate c.args.bound c.args.rounds) c.args.schedule.now (gate_takes c.args.bound c.args.rounds) (AreFewInside c.args.bound) c.run.result (returns-clause-state c) c.run.ensures.start refused (λ _. kept c.args.bound c.args.rounds) c.requires
