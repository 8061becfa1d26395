use Rattle.ultra_crew.specs.Tasks.{busy_workers}
use Rattle.ultra_crew.proofs.Counted.{own_expected_results}
use Rattle.ultra_crew.proofs.crew.Crew.cycles.Goals as goal

pub cycles_together-requires-clause-expected : goal.cycles_together-requires-clause-expected
cycles_together-requires-clause-expected g c κs within = own_expected_results (busy_workers c.args.workers c.args.blocks.count) c.args.blocks
