use Rattle.std.proofs.Common.{arith}
use Rattle.ultra_partition.proofs.Merged.{entry_within, goes_on}
use Rattle.ultra_partition.proofs.merging.Merge.front.Goals as goal

pub rank-rank-requires : goal.rank-rank-requires
rank-rank-requires g c =
    entry_within (g.R.Ranking.rank_of c.self.inside.ranking) (g.R.Ranking.rank_count c.self.inside.ranking) c.deref-list-items.result.now _ _ c.loop-place-test.true c.list-item.is
    (rw c.deref-list-items.ensures.0 c.self.invariant) _ c.in-Some.ensures.value

pub loop-place-preserved : goal.loop-place-preserved
loop-place-preserved g c =
    goes_on (g.R.Ranking.rank_of c.self.inside.ranking) (g.R.Ranking.rank_count c.self.inside.ranking) c.deref-list-items.result.now _ _ c.loop-place-test.true c.list-item.is
    (rw c.deref-list-items.ensures.0 c.self.invariant) _ c.in-Some.ensures.value _ c.loop-place.invariant c.map_or.result (grind arith)
