use Rattle.ultra_trace_alone.specs.{Part.part_of, RunText.run_text}
use Rattle.ultra_trace_alone.proofs.running.run_part_alone.Goals as goal

pub returns-clause-ok : goal.returns-clause-ok
unfolding run_text part_of
returns-clause-ok g c = c.write_run.ensures.ok

pub returns-clause-err : goal.returns-clause-err
unfolding run_text part_of
returns-clause-err g c = c.write_run.ensures.err
