use Rattle.std.proofs.Common.{◌≡◌, [], vec_capacity}
use Rattle.ultra_model.specs.Places.{places}
use Rattle.ultra_latency.proofs.open.OpenTable.new.Given as goal

abbrev pub invariant-loop : goal.invariant-loop
invariant-loop l = record {
  rows : l.rows.items ≡ places l.counter (λ p. []);
  capacity : vec_capacity l.rows ≡ l.pes;
}
