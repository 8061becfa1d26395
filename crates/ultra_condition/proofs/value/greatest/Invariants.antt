use Rattle.std.proofs.Common.{◌≡◌, take}
use Rattle.std.specs.{Prelude.max, List.fold}
use Rattle.ultra_condition.proofs.value.greatest.Given as goal

abbrev pub invariant-loop-word : goal.invariant-loop-word
invariant-loop-word l = l.greatest ≡ fold max l.initial.greatest (take l.word-index l.rest)
