use Rattle.std.proofs.Common.{◌≡◌, ◌≤◌, ◌++◌, length}
use Rattle.std.specs.Prelude.{map, Some, vec_capacity}
use Rattle.ultra_sweep.proofs.gathering.texts_in.Given as goal

abbrev pub invariant-loop-place : goal.invariant-loop-place
invariant-loop-place l = record {
  full : map Some l.texts.items ≡ l.yielded;
  rest : l.yielded ++ l.place-iterator.rest.items ≡ l.fn.places.items;
  number : l.number ≡ length l.yielded;
  room : length l.fn.places.items ≤ vec_capacity l.texts;
}
