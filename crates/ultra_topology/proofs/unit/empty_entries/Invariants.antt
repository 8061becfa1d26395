use Rattle.std.proofs.Common.{◌≡◌, replicate, None}
use Rattle.ultra_topology.proofs.unit.empty_entries.Given as goal

abbrev pub invariant-loop-entry : goal.invariant-loop-entry
invariant-loop-entry g l = l.entries.items ≡ replicate l.entry None
