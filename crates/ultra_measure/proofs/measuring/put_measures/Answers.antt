use Rattle.std.proofs.Common.{◌∙◌, sym, ap, subst, arith}
use Rattle.ultra_io.specs.TextBuffer.{Writes}
use Rattle.ultra_io.proofs.Writing.{◌then◌}
use Rattle.ultra_model.specs.Machine.{Settings}
use Rattle.ultra_measure.specs.{declared.measuring.Layout.Layout, Texts.measured}
use Rattle.ultra_measure.proofs.Windows.{lines_are, table_is, rows_are}
use Rattle.ultra_measure.proofs.measuring.put_measures.Goals as goal

pub returns-in-Lines : goal.returns-in-Lines
returns-in-Lines g c =
    let b = c.args.blocks.now in
    let cycles = c.cycles-cycles.ensures.value ∙ ap (λ (t : Settings). t.cycles) c.config.ensures in
    let P : Layout → Type 0 = λ layout. Writes g.S.Sink.taken g.S.Sink.failures (measured b.config b.program c.args.from c.args.to layout) c.args.buffer.now c.put_windows.new.buffer in
    subst P (sym c.in-Lines.is)
    (subst (λ text. Writes g.S.Sink.taken g.S.Sink.failures text c.args.buffer.now c.put_windows.new.buffer)
    (lines_are b.config b.program c.args.from c.args.to 1000000 (omega arith) (omega (arith, cycles, c.cycles-cycles.ensures.range.1)))
    c.put_windows.ensures)

pub returns-in-Table : goal.returns-in-Table
returns-in-Table g c =
    let b = c.args.blocks.now in
    let e = c.in-Table.every in
    let P : Layout → Type 0 = λ layout. Writes g.S.Sink.taken g.S.Sink.failures (measured b.config b.program c.args.from c.args.to layout) c.args.buffer.now c.put_windows-in-Table.new.buffer in
    subst P (sym c.in-Table.is)
    (subst (λ text. Writes g.S.Sink.taken g.S.Sink.failures text c.args.buffer.now c.put_windows-in-Table.new.buffer)
    (table_is b.config b.program c.args.from c.args.to e)
    (subst (λ text. Writes g.S.Sink.taken g.S.Sink.failures text c.args.buffer.now c.put.new.self) (c.measure_names.ensures.same b.config b.program _ _) c.put.ensures then c.put_windows-in-Table.ensures))

pub returns-in-JobRows : goal.returns-in-JobRows
returns-in-JobRows g c =
    let b = c.args.blocks.now in
    let P : Layout → Type 0 = λ layout. Writes g.S.Sink.taken g.S.Sink.failures (measured b.config b.program c.args.from c.args.to layout) c.args.buffer.now c.put_windows-in-JobRows.new.buffer in
    subst P (sym c.in-JobRows.is)
    (subst (λ text. Writes g.S.Sink.taken g.S.Sink.failures text c.args.buffer.now c.put_windows-in-JobRows.new.buffer)
    (rows_are b.config b.program c.args.from c.args.to c.in-JobRows.job c.in-JobRows.every)
    c.put_windows-in-JobRows.ensures)
