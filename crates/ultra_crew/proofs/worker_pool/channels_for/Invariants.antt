use Rattle.std.proofs.Common.{◌≡◌, vec_len}
use Rattle.ultra_crew.proofs.worker_pool.channels_for.Given as goal

abbrev pub invariant-loop : goal.invariant-loop
invariant-loop g l = vec_len l.channels ≡ l.counter
