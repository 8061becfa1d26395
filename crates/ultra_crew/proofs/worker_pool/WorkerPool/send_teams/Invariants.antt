use Rattle.std.proofs.Common.{◌≡◌, length}
use Rattle.ultra_crew.proofs.worker_pool.WorkerPool.send_teams.Given as goal

abbrev pub invariant-loop-team : goal.invariant-loop-team
invariant-loop-team g l = l.worker ≡ length l.yielded
