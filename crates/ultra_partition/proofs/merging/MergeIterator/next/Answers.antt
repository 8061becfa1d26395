use Rattle.std.proofs.Common.{arith}
use Rattle.ultra_partition.proofs.Merged.{left_ranked, left_merged}
use Rattle.ultra_partition.proofs.merging.MergeIterator.next.Goals as goal

pub invariant_of-self : goal.invariant_of-self
invariant_of-self g c =
    rw c.deref_mut.ensures.value
    (left_ranked _ _ _ c.self.invariant _ _ (rw (← c.self.view_is) at c.in_ok-front.ensures) _ _ _ (rw c.deref_mut.ensures.value at c.take_first.ensures))

pub returns-clause-steps : goal.returns-clause-steps
returns-clause-steps g c =
    rw (← c.self.view_is, c.deref_mut.ensures.value)
    (left_merged _ _ _ c.self.invariant _ _ (rw (← c.self.view_is) at c.in_ok-front.ensures) _ _ _ (rw c.deref_mut.ensures.value at c.take_first.ensures))

pub returns-clause-goes : goal.returns-clause-goes
returns-clause-goes g c = grind (arith, returns-clause-steps)
