use Rattle.std.proofs.Common.{drop}
use Rattle.ultra_asm.specs.Listing.{operands_text}
use Rattle.ultra_asm.proofs.InBuffer.{IsOnPage}
use Rattle.ultra_asm.proofs.canonical.put_operands.Given as goal

abbrev pub invariant-loop-operand : goal.invariant-loop-operand
invariant-loop-operand g l = IsOnPage g.S.Sink.taken g.S.Sink.failures (operands_text l.operands) (operands_text (drop l.operand-index l.operands)) l.initial.buffer l.buffer
