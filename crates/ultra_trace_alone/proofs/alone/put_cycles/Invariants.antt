use Rattle.std.proofs.Common.{◌≡◌}
use Rattle.ultra_io.specs.TextBuffer.{Writes}
use Rattle.ultra_trace_alone.specs.BlocksAfter.{IsAfter}
use Rattle.ultra_model.specs.Trace.{by_number}
use Rattle.ultra_trace_alone.proofs.Count.{IsBusy}
use Rattle.ultra_trace_alone.proofs.alone.put_cycles.Given as goal

abbrev pub invariant-loop-cycle : goal.invariant-loop-cycle
invariant-loop-cycle g l =
    let c = l.initial.blocks.config in
    let program = l.initial.blocks.program in
    let pieces = g.T.RunText.pieces l.initial.text in
    record {
      state : IsAfter c program l.cycle l.blocks;
      takes : g.T.RunText.takes l.blocks.count;
      ready : g.T.RunText.is_ready l.text c program l.cycle;
      same : g.T.RunText.pieces l.text ≡ pieces;
      writes : Writes g.S.Sink.taken g.S.Sink.failures (by_number l.cycle (pieces.lines c program)) l.initial.buffer l.buffer;
      busy : IsBusy c program l.cycle;
    }
