use Rattle.std.proofs.Common.{ℕ, arith}
use Rattle.ultra_topology.proofs.{Common.{HasNoneFrom, nat_tests}, Set.{set_steps, zero_where_none}}
use Rattle.ultra_topology.proofs.unit_set.UnitSet.is_in_first_word.Goals as goal

pub returns : goal.returns
returns c = (
  grind (arith, nat_tests, set_steps),
  λ none.
      let past : HasNoneFrom c.self.inside.words 64 = rw (← c.self.view_is) at none in
      let zero = λ (i : ℕ). zero_where_none c.self.inside.words i 64 past in
      grind (arith, nat_tests, zero 1, zero 2, zero 3, zero 4),
)
