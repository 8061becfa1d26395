use Rattle.std.proofs.Common.{◌≡◌, take}
use Rattle.std.specs.{Prelude.min, List.fold}
use Rattle.ultra_condition.proofs.value.least.Given as goal

abbrev pub invariant-loop-word : goal.invariant-loop-word
invariant-loop-word l = l.least ≡ fold min l.initial.least (take l.word-index l.rest)
