use Rattle.std.proofs.Common.{◌+◌, take}
use Rattle.ultra_io.specs.FilledBytes.{IsWritten}
use Rattle.ultra_io.proofs.filled_bytes.FilledBytes.write.Given as goal

abbrev pub invariant-loop-index : goal.invariant-loop-index
invariant-loop-index g l = IsWritten (take l.index l.bytes) l.at l.initial.self.bytes l.self.bytes (l.at + l.index)
