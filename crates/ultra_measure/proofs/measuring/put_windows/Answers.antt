use Rattle.std.proofs.Common.{◌≡◌, ◌≤◌, sym, subst, arith}
use Rattle.ultra_io.specs.TextBuffer.{Writes}
use Rattle.ultra_io.proofs.Writing.{writes_nothing}
use Rattle.ultra_trace_alone.specs.RunText.{cycles_until}
use Rattle.ultra_measure.proofs.Windows.{count_within, none_are}
use Rattle.ultra_measure.proofs.measuring.put_windows.Goals as goal
use Rattle.ultra_measure.proofs.measuring.put_windows.Goals.{else-from-most_cycles-via-then-from-most_cycles+else-skip_cycles, else-from-most_cycles-via-else-from-most_cycles}

pub returns-else-from-most_cycles : goal.returns-else-from-most_cycles
returns-else-from-most_cycles g c =
    let first = c.args.blocks.now in
    let within = count_within first.config first.program in
    let high : cycles_until first.config first.program c.args.to ≤ c.args.from = elim c.else-from-most_cycles.branch [
      | else-from-most_cycles-via-then-from-most_cycles+else-skip_cycles w ↦ let over = w.skip_cycles.ensures.over w.if-skip_cycles.false in omega (arith, over)
      | else-from-most_cycles-via-else-from-most_cycles w ↦ omega (arith, within, c.most_cycles.ensures.value, w.if-from-most_cycles.false)
    ] in
    let none = none_are first.config first.program c.args.form c.args.from c.args.to c.args.every c.requires.some high in
    subst (λ text. Writes g.S.Sink.taken g.S.Sink.failures text c.args.buffer.now c.args.buffer.now) (sym none) (writes_nothing c.args.buffer.now)
