use Rattle.std.proofs.Common.{arith}
use Rattle.ultra_trace_alone.proofs.Count.{after_none}
use Rattle.ultra_statistics.proofs.observer.observe_run.Goals as goal

pub observe_cycles-requires-clause-start : goal.observe_cycles-requires-clause-start
observe_cycles-requires-clause-start g c = grind (arith, after_none, c.in_ok-blocks.ensures)
