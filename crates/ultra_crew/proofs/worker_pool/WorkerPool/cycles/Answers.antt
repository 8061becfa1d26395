use Rattle.std.proofs.{Common.arith, lemmas.Grind.common_steps}
use Rattle.ultra_crew.proofs.worker_pool.WorkerPool.cycles.Goals as goal

pub returns : goal.returns
returns g c = grind (arith, common_steps)
