use Rattle.ultra_requests.proofs.NamedLines.{events_are}
use Rattle.ultra_requests.proofs.events.write_events.Goals as goal

pub returns-clause-ok : goal.returns-clause-ok
returns-clause-ok g c = rw (← events_are c.args.from c.args.to c.args.config.now c.args.program.now) c.write_run.ensures.ok

pub returns-clause-err : goal.returns-clause-err
returns-clause-err g c = rw (← events_are c.args.from c.args.to c.args.config.now c.args.program.now) c.write_run.ensures.err
