use Rattle.std.proofs.Common.{subst, sym, arith, []}
use Rattle.ultra_tree.specs.Slots.{AreSlotsOf}
use Rattle.ultra_tree.proofs.{Counted.within_none, Agreement.slots_none}
use Rattle.ultra_tree.proofs.explaining.Explainer.drop_trees.Goals as goal

pub invariant_of-self : goal.invariant_of-self
invariant_of-self g c =
    let n = c.self.inside.elements in
    let m = c.self.inside.most_open in (
      omega (arith, c.self.invariant.0, c.clear.ensures.capacity, c.add_free.ensures.capacity),
      within_none n m,
      subst (λ ss. AreSlotsOf n m ss []) (sym c.add_free.ensures.items) (slots_none g.row.A.Denot n m),
    )
