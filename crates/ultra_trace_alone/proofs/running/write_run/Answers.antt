use Rattle.std.proofs.Common.{arith}
use Rattle.ultra_trace_alone.proofs.Count.{after_none}
use Rattle.ultra_trace_alone.proofs.running.write_run.Goals as goal

pub write_text-requires-clause-start : goal.write_text-requires-clause-start
write_text-requires-clause-start g c = grind (arith, after_none, c.in_ok-blocks.ensures)
