use Rattle.std.proofs.Common.{refl, sym, get_or, replicate, arith}
use Rattle.ultra_model.proofs.Sums.{total_zero}
use Rattle.ultra_measure.proofs.Keeping.{zeros}
use Rattle.ultra_measure.proofs.tally.Tally.new.Goals as goal

pub invariant_of-result : goal.invariant_of-result
invariant_of-result c = record {
  sum = sym (total_zero 64 (λ k. get_or (replicate 64 0) k 0) (λ k h. zeros 64 k 0 refl));
  small = λ k h. let zero = zeros 64 k 0 refl in omega (arith, zero);
}

pub returns : goal.returns
returns c = λ k. zeros 64 k 0 refl
