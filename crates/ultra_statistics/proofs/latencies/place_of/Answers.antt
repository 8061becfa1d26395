use Rattle.std.proofs.{Common.{ℕ, ◌≡◌, ◌<◌, ◌≤◌, nat_lt, true, false, rules, arith}, lemmas.{Bool.Decides.nat_tests, List.Sorted.{IsPartitionPoint-from_clause, IsPartitionedBy-ltb}}}
use Rattle.ultra_statistics.specs.declared.latencies.LatencyCount.{LatencyCount}
use Rattle.ultra_statistics.proofs.CountLists.{non_decreasing}
use Rattle.ultra_statistics.proofs.latencies.place_of.Goals as goal

is_below : (a b : ℕ) → nat_lt a b ≡ true → a < b
is_below a b h = grind (arith, nat_tests)

is_not_below : (a b : ℕ) → nat_lt a b ≡ false → b ≤ a
is_not_below a b h = grind (arith, nat_tests)

pub returns : goal.returns
returns c =
    let counts = c.args.counts.now in
    let l = c.args.latency in
    let point = IsPartitionPoint-from_clause (λ (p : LatencyCount). nat_lt p.latency l) _ _ c.partition_point.ensures.partitioned (IsPartitionedBy-ltb (λ (p : LatencyCount). p.latency) counts l (non_decreasing 0 counts c.requires)) (λ a r q k. search rules) in
    record {
      bound = c.partition_point.ensures.bound;
      lesser = λ k d h. is_below _ _ (point.0 k d (omega arith) h);
      rest = λ k d le h. is_not_below _ _ (point.1 k d le h);
    }
