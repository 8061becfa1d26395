use Rattle.std.proofs.Common.{length}
use Rattle.ultra_asm.specs.{Words.text_words, Found.definition_in}
use Rattle.ultra_asm.proofs.Assembly.{IsSoFar}
use Rattle.ultra_asm.proofs.assemble.Given as goal

abbrev pub invariant-loop-index : goal.invariant-loop-index
invariant-loop-index l = IsSoFar (text_words l.text) (definition_in l.labels) (length l.yielded) l.list.items
