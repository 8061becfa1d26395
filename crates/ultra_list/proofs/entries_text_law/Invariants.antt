use Rattle.std.proofs.Common.{take}
use Rattle.std.specs.List.{AllByRecursion}
use Rattle.ultra_list.specs.SerialText.{HasWords}
use Rattle.ultra_list.proofs.entries_text_law.Given as goal

abbrev pub invariant-loop-entry : goal.invariant-loop-entry
invariant-loop-entry l = AllByRecursion HasWords (take l.entry-index l.entries)
