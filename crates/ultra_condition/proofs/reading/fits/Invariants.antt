use Rattle.std.proofs.Common.{◌≡◌, ◌<◌, ◌^◌, take}
use Rattle.std.specs.List.{sum_by}
use Rattle.ultra_condition.specs.Limits.{most_term}
use Rattle.ultra_condition.proofs.reading.fits.Given as goal

abbrev pub invariant-loop-term : goal.invariant-loop-term
invariant-loop-term l = record {
  value : l.most ≡ sum_by (most_term l.elements) (take l.term-index l.terms);
  small : l.most < 2 ^ 64;
}
