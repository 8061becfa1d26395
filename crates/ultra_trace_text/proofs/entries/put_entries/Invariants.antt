use Rattle.std.proofs.Common.{◌<◌, take}
use Rattle.ultra_io.specs.{TextBuffer.GoesOn, declared.filled_bytes.TheConstants.BUFFER_BYTES}
use Rattle.ultra_model.specs.Text.{comma_separated}
use Rattle.ultra_trace_text.proofs.entries.put_entries.Given as goal

abbrev pub invariant-loop-index : goal.invariant-loop-index
invariant-loop-index g l = record {
  goes_on : GoesOn g.S.Sink.taken g.S.Sink.failures (comma_separated g.E.Entries.text (take l.index (g.E.Entries.entries l.entries))) l.fn.buffer l.fn.at l.buffer l.at;
  room : l.at < BUFFER_BYTES;
}
