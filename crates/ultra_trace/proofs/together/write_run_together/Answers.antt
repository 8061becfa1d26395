use Rattle.ultra_crew.proofs.Counted.{own_expected_results}
use Rattle.ultra_trace.proofs.together.write_run_together.Goals as goal

pub write_by_workers-requires-clause-expected : goal.write_by_workers-requires-clause-expected
write_by_workers-requires-clause-expected g c κs within = own_expected_results c.args.workers c.args.blocks
