use Rattle.std.proofs.Common.{ℕ, ◌<◌, ◌≤◌, ◌-◌}
use Rattle.ultra_partition.proofs.Common.{unit_count, HasNoneFor, OnlyMove}
use Rattle.ultra_partition.proofs.moving.exchange.Given as goal

abbrev pub invariant-loop-from : goal.invariant-loop-from
invariant-loop-from l = record {
  only : OnlyMove l.kind l.initial.blocks l.blocks;
  there : (k : ℕ) → k < l.from → (n : ℕ) → n < unit_count l.net → HasNoneFor l.kind l.net l.partition l.blocks k n;
}

abbrev pub decreases-loop-unit : goal.decreases-loop-unit
decreases-loop-unit l = 320 - l.next

abbrev pub invariant-loop-unit : goal.invariant-loop-unit
invariant-loop-unit l = record {
  within : l.next ≤ 320;
  only : OnlyMove l.kind l.fn.blocks l.blocks;
  there : (k : ℕ) → k < l.from → (n : ℕ) → n < unit_count l.net → HasNoneFor l.kind l.net l.partition l.blocks k n;
  gone : (n : ℕ) → n < l.next → n < unit_count l.net → HasNoneFor l.kind l.net l.partition l.blocks l.from n;
}
