use Rattle.ultra_trace_alone.specs.{Part.part_of, RunText.run_text}
use Rattle.ultra_trace.proofs.running.run_part.Goals as goal

pub returns-else-workers-eq1-clause-ok : goal.returns-else-workers-eq1-clause-ok
unfolding run_text part_of
returns-else-workers-eq1-clause-ok g c = c.run_together.ensures.ok

pub returns-else-workers-eq1-clause-err : goal.returns-else-workers-eq1-clause-err
unfolding run_text part_of
returns-else-workers-eq1-clause-err g c = c.run_together.ensures.err
