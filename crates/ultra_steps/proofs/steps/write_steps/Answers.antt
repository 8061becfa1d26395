use Rattle.ultra_steps.proofs.Fresh.{at_start}
use Rattle.ultra_steps.proofs.Texts.{steps_are}
use Rattle.ultra_steps.proofs.steps.write_steps.Goals as goal

pub returns-clause-ok : goal.returns-clause-ok
returns-clause-ok g c = rw (← steps_are c.args.from c.args.to c.args.config.now c.args.program.now) c.write_run.ensures.ok

pub returns-clause-err : goal.returns-clause-err
returns-clause-err g c = rw (← steps_are c.args.from c.args.to c.args.config.now c.args.program.now) c.write_run.ensures.err

pub write_run-requires-clause-ready : goal.write_run-requires-clause-ready
write_run-requires-clause-ready g c = record {
  table = c.in_ok-table.ensures c.args.program.now;
  copies = at_start c.args.config.now c.args.program.now _ c.in_ok-copies.ensures.copies;
  capacity = c.in_ok-copies.ensures.capacity;
}
