use Rattle.std.proofs.Common.{arith}
use Rattle.ultra_trace_alone.proofs.Count.{after_none}
use Rattle.ultra_trace_alone.proofs.start.new_blocks.Goals as goal

pub returns-in-Ok-clause-start : goal.returns-in-Ok-clause-start
returns-in-Ok-clause-start c = grind (arith, after_none)
