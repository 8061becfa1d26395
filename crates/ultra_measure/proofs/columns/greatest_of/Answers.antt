use Rattle.std.proofs.Common.{refl, sym, slice_index}
use Rattle.ultra_measure.proofs.More.{no_greatest, greatest_goes_on}
use Rattle.ultra_measure.proofs.columns.greatest_of.Goals as goal

pub loop-k-init : goal.loop-k-init
loop-k-init c = sym (no_greatest (λ k. slice_index c.args.values.now k))

pub loop-k-preserved : goal.loop-k-preserved
loop-k-preserved c = greatest_goes_on c.loop-k.k (λ k. slice_index c.args.values.now k) c.loop-k.invariant refl c.max-most.ensures
