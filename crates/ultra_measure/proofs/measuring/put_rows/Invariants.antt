use Rattle.std.proofs.Common.{ℕ, ◌≡◌, ◌+◌, ◌*◌, ◌-◌, ◌≤◌, min}
use Rattle.std.specs.Prelude.{Some}
use Rattle.ultra_model.specs.Trace.{by_number}
use Rattle.ultra_io.specs.TextBuffer.{Writes}
use Rattle.ultra_trace_alone.specs.RunText.{cycles_until, most_for}
use Rattle.ultra_measure.specs.{Rows.row_text, Running.IsOn, Texts.window_of}
use Rattle.ultra_measure.proofs.measuring.put_rows.Given as goal

abbrev pub invariant-loop-cycle : goal.invariant-loop-cycle
invariant-loop-cycle g l =
    let c = l.initial.blocks.config in
    let program = l.initial.blocks.program in
    record {
      on : IsOn c program l.cycle l.blocks l.table;
      windows : (k : ℕ) × (l.cycle ≡ min (l.from + k * l.every) (most_for c (Some l.to))) × (k * l.every + 1 ≤ cycles_until c program l.to - l.from + l.every)
          × Writes g.S.Sink.taken g.S.Sink.failures (by_number k (λ j. row_text l.form (window_of c program l.from l.to l.every j))) l.initial.buffer l.buffer;
    }

abbrev pub decreases-loop-cycle : goal.decreases-loop-cycle
decreases-loop-cycle g l = l.most - l.cycle
