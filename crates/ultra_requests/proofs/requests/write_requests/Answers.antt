use Rattle.ultra_requests.proofs.Tables.{table_is}
use Rattle.ultra_requests.proofs.requests.write_requests.Goals as goal

pub returns-clause-ok : goal.returns-clause-ok
returns-clause-ok g c = rw (← table_is c.args.config.now c.initial-valid.ensures.valid.range c.args.program.now) c.write_run.ensures.ok

pub returns-clause-err : goal.returns-clause-err
returns-clause-err g c = rw (← table_is c.args.config.now c.initial-valid.ensures.valid.range c.args.program.now) c.write_run.ensures.err
