use Rattle.std.proofs.Common.{◌≡◌, ◌++◌, vec_len}
use Rattle.ultra_sweep.proofs.Filling.{IsFilled}
use Rattle.ultra_sweep.proofs.gathering.gather_into.Given as goal

abbrev pub invariant-loop-result : goal.invariant-loop-result
invariant-loop-result l = record {
  filled : IsFilled (vec_len l.fn.places) l.yielded l.places.items;
  rest : l.yielded ++ l.result-iterator.rest.items ≡ l.fn.results.items;
}
