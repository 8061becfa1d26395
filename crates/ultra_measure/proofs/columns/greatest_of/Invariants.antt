use Rattle.std.proofs.Common.{◌≡◌, slice_index}
use Rattle.ultra_measure.specs.Window.{greatest}
use Rattle.ultra_measure.proofs.columns.greatest_of.Given as goal

abbrev pub invariant-loop-k : goal.invariant-loop-k
invariant-loop-k l = l.most ≡ greatest l.k (λ k. slice_index l.values k)
