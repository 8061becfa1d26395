use Rattle.std.proofs.Common.{refl, arith}
use Rattle.ultra_model.specs.{Machine.size, Balance.total}
use Rattle.ultra_measure.specs.{Held.{held_at, full_at}, Window.greatest}
use Rattle.ultra_measure.proofs.Keeping.{zeros, nothing_summed, no_most}
use Rattle.ultra_measure.proofs.depths.Depths.new.Goals as goal

pub returns : goal.returns
returns c = λ s program from held. record {
  sums = λ k h. (nothing_summed s program from (λ m. total (size s) (held_at held k m)) _ (zeros 6 k 0 refl)).is;
  small = λ k h. let zero = zeros 6 k 0 refl in omega (arith, zero);
  maxima = λ k h. no_most s program from (λ m. greatest (size s) (held_at held k m)) _ (zeros 6 k 0 refl);
  full = λ k h. (nothing_summed s program from (λ m. total (size s) (full_at s held k m)) _ (zeros 6 k 0 refl)).is;
  full_small = λ k h. let zero = zeros 6 k 0 refl in omega (arith, zero);
}
