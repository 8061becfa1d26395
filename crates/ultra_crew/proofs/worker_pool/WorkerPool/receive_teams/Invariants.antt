use Rattle.std.proofs.Common.{◌≡◌, ℕ, ◌<◌, length, slice_index_or}
use Rattle.ultra_crew.proofs.worker_pool.WorkerPool.receive_teams.Given as goal

abbrev pub invariant-loop-worker : goal.invariant-loop-worker
invariant-loop-worker g l = record {
  count : length l.teams.items ≡ l.worker;
  each : (w : ℕ) (d : _) → w < l.worker → (slice_index_or l.teams.items w d).items ≡ g.J.ExpectedResults.results l.cycle l.half w;
}
