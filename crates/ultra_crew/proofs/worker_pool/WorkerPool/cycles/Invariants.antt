use Rattle.std.proofs.Common.{◌≡◌}
use Rattle.ultra_crew.specs.ExpectedResults.{AreExpectedResults, later}
use Rattle.ultra_crew.proofs.worker_pool.WorkerPool.cycles.Given as goal

abbrev pub invariant-loop : goal.invariant-loop
invariant-loop g l = record {
  made : l.blocks ≡ later l.counter l.initial.blocks;
  expected : AreExpectedResults g.J.ExpectedResults.results g.J.ExpectedResults.program l.self l.blocks;
}
