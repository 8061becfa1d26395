use Rattle.std.proofs.Common.{take}
use Rattle.ultra_io.specs.TextBuffer.{Writes}
use Rattle.ultra_list.specs.SerialText.{order_text}
use Rattle.ultra_list.proofs.writing.put_entries.Given as goal

abbrev pub invariant-loop-entry : goal.invariant-loop-entry
invariant-loop-entry g l = Writes g.S.Sink.taken g.S.Sink.failures (order_text (take l.entry-index l.entries)) l.initial.buffer l.buffer
