use Rattle.std.proofs.Common.{sym, subst}
use Rattle.std.specs.Prelude.{Option}
use Rattle.ultra_io.specs.TextBuffer.{Writes}
use Rattle.ultra_io.proofs.Writing.{◌then◌}
use Rattle.ultra_measure.specs.{declared.columns.Value.Value, Rows.{name_text, value_if}, Texts.line_if}
use Rattle.ultra_measure.proofs.columns.put_line.Goals as goal

pub returns-in-Some : goal.returns-in-Some
returns-in-Some g c =
    let P : Option Value → Type 0 = λ o. Writes g.S.Sink.taken g.S.Sink.failures (line_if (name_text c.args.name.now c.args.stage) (value_if o)) c.args.buffer.now c.put-in-Some.new.self in
    subst P (sym c.in-Some.is) (c.put_name.ensures then c.put.ensures then c.put_value.ensures then c.put-in-Some.ensures)
