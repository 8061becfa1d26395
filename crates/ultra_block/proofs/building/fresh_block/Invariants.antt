use Rattle.std.proofs.Common.{◌^◌}
use Rattle.ultra_topology.specs.Numbers.{switch_count}
use Rattle.ultra_block.proofs.Built.{AreIn}
use Rattle.ultra_block.proofs.building.fresh_block.Given as goal

abbrev pub invariant-loop-number : goal.invariant-loop-number
invariant-loop-number l = AreIn l.config l.program l.number 0 0 l.block

abbrev pub invariant-loop-number-2 : goal.invariant-loop-number-2
invariant-loop-number-2 l = AreIn l.config l.program (switch_count l.config.stages) l.number 0 l.block

abbrev pub invariant-loop-pe : goal.invariant-loop-pe
invariant-loop-pe l = AreIn l.config l.program (switch_count l.config.stages) (2 ^ l.config.stages) l.pe l.block
