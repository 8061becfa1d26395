use Rattle.std.proofs.Common.{length}
use Rattle.ultra_asm.specs.Words.{text_words}
use Rattle.ultra_asm.proofs.{Collecting.AreOfLines, InstructionLines.AreInstructionLines}
use Rattle.ultra_asm.proofs.labels.Labels.of.Given as goal

abbrev pub invariant-loop-line : goal.invariant-loop-line
invariant-loop-line l = record {
  labels : AreOfLines (text_words l.text) (length l.yielded) l.list.items;
  lines : AreInstructionLines (text_words l.text) (length l.yielded) l.instructions.items;
}
