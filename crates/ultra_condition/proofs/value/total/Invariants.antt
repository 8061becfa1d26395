use Rattle.std.proofs.Common.{◌≡◌, ◌≤◌, ◌*◌, take}
use Rattle.std.specs.List.{sum}
use Rattle.ultra_condition.specs.Limits.{most_word}
use Rattle.ultra_condition.proofs.value.total.Given as goal

abbrev pub invariant-loop-word : goal.invariant-loop-word
invariant-loop-word l = record {
  value : l.total ≡ sum (take l.word-index l.words);
  small : l.total ≤ l.word-index * most_word;
}
