use Rattle.std.proofs.Common.{◌≡◌, ◌+◌, ◌++◌}
use Rattle.arrayvec.specs.ArrayVec.{array_vec_len}
use Rattle.ultra_tree.specs.Text.{closings}
use Rattle.ultra_tree.proofs.short_text.add_closings.Given as goal

abbrev pub invariant-loop : goal.invariant-loop
invariant-loop l = record {
  items : l.text.items ≡ l.initial.text.items ++ closings l.counter;
  len : array_vec_len l.text ≡ array_vec_len l.initial.text + l.counter;
}
