use Rattle.std.proofs.Common.{◌≡◌, true, length, nat_lt}
use Rattle.std.specs.List.{list_all}
use Rattle.ultra_trace_alone.specs.Dealt.{IsDealtOut}
use Rattle.ultra_trace_alone.proofs.start.deal_units.Given as goal

abbrev pub invariant-loop-unit : goal.invariant-loop-unit
invariant-loop-unit l = record {
  count : length l.partition.items ≡ l.unit;
  blocks : list_all (λ b. nat_lt b 64) l.partition.items ≡ true;
  dealt : IsDealtOut l.workers l.partition.items;
}
