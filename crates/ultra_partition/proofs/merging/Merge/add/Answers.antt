use Rattle.std.proofs.lemmas.List.Elements.{All-push}
use Rattle.ultra_partition.specs.Merging.{IsRanked}
use Rattle.ultra_partition.proofs.merging.Merge.add.Goals as goal

pub invariant_of-self : goal.invariant_of-self
invariant_of-self g c =
    rw c.push.ensures.items
    (All-push (λ list. IsRanked (g.R.Ranking.rank_of c.self.inside.ranking) (g.R.Ranking.rank_count c.self.inside.ranking) list.now)
    c.self.inside.lists.items c.args.list c.self.invariant (rw (← c.self.view_is) at c.requires.ranked))
