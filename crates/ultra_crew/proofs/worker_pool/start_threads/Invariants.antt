use Rattle.std.proofs.Common.{◌≡◌, length, vec_len, vec_capacity}
use Rattle.ultra_crew.proofs.worker_pool.start_threads.Given as goal

abbrev pub invariant-loop-each : goal.invariant-loop-each
invariant-loop-each g l = record {
  count : vec_len l.threads ≡ length l.yielded;
  room : vec_capacity l.threads ≡ vec_capacity l.fn.threads;
}
