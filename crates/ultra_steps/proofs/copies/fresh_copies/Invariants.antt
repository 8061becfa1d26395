use Rattle.std.proofs.Common.{◌≡◌, vec_capacity}
use Rattle.ultra_steps.proofs.Fresh.{AreFresh}
use Rattle.ultra_steps.proofs.copies.fresh_copies.Given as goal

abbrev pub invariant-loop-pe : goal.invariant-loop-pe
invariant-loop-pe l = record {
  fresh : AreFresh l.config l.pe l.copies.items;
  capacity : vec_capacity l.copies ≡ vec_capacity l.initial.copies;
}
