use Rattle.std.specs.Prelude.{map}
use Rattle.ultra_partition.specs.Merging.{IsFront}
use Rattle.ultra_partition.proofs.merging.Merge.front.Given as goal

abbrev pub invariant-loop-place : goal.invariant-loop-place
invariant-loop-place g l = IsFront (g.R.Ranking.rank_of l.self-inside.ranking) (map (λ list. list.now) l.list-items) l.place l.front
