use Rattle.std.proofs.Common.{take}
use Rattle.std.specs.List.{flat_map}
use Rattle.ultra_io.specs.TextBuffer.{Writes}
use Rattle.ultra_statistics.specs.Latencies.{count_row}
use Rattle.ultra_statistics.proofs.latencies.put_bars.Given as goal

abbrev pub invariant-loop-count : goal.invariant-loop-count
invariant-loop-count g l = Writes g.S.Sink.taken g.S.Sink.failures (flat_map count_row (take l.count-index l.counts)) l.initial.buffer l.buffer
