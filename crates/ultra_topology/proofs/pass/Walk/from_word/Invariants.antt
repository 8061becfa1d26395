use Rattle.std.proofs.Common.{◌*◌}
use Rattle.ultra_topology.proofs.Common.{HasNoneWithin, has_unit}
use Rattle.ultra_topology.proofs.pass.Walk.from_word.Given as goal

abbrev pub invariant-loop-word : goal.invariant-loop-word
invariant-loop-word l = HasNoneWithin (has_unit l.set) (l.first * 64) (l.word * 64)
