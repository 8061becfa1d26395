use Rattle.std.proofs.Common.{subst, sym, arith, []}
use Rattle.ultra_tree.specs.Slots.{AreSlotsOf}
use Rattle.ultra_tree.proofs.{Counted.within_none, Agreement.slots_none}
use Rattle.ultra_tree.proofs.explaining.Explainer.new.Goals as goal

pub invariant_of-result : goal.invariant_of-result
invariant_of-result g c =
    let n = c.size-elements.result in
    let m = c.most_open-most_open.result in (
      omega (arith, c.in-Ok.ensures.capacity, c.add_free.ensures.capacity),
      within_none n m,
      subst (λ ss. AreSlotsOf n m ss []) (sym c.add_free.ensures.items) (slots_none g.row.A.Denot n m),
    )
