use Rattle.std.proofs.{Common.{nat_lt, sym, rules, arith}, lemmas.List.{Sorted.{IsPartitionPoint-from_clause, IsPartitionedBy-ltb}, Sums.prefix_len_is}}
use Rattle.ultra_asm.proofs.labels.pc_at.Goals as goal

pub returns : goal.returns
returns c =
    let lines = c.args.lines.now in
    let point = IsPartitionPoint-from_clause (λ n. nat_lt n c.args.line) _ _ c.partition_point.ensures.partitioned (IsPartitionedBy-ltb (λ n. n) lines c.args.line c.requires) (λ a r q k. search rules) in
    sym (prefix_len_is (λ n. nat_lt n c.args.line) lines c.partition_point.result 0 c.partition_point.ensures.bound (λ k h. point.0 k 0 (omega arith) h) (λ h. point.1 c.partition_point.result 0 (omega arith) h))
