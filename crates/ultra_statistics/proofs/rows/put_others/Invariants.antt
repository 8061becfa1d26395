use Rattle.std.proofs.Common.{take}
use Rattle.std.specs.List.{flat_map}
use Rattle.ultra_io.specs.TextBuffer.{Writes}
use Rattle.ultra_statistics.specs.Queues.{number_behind_comma}
use Rattle.ultra_statistics.proofs.rows.put_others.Given as goal

abbrev pub invariant-loop-number : goal.invariant-loop-number
invariant-loop-number g l = Writes g.S.Sink.taken g.S.Sink.failures (flat_map number_behind_comma (take l.number-index l.numbers)) l.initial.buffer l.buffer
