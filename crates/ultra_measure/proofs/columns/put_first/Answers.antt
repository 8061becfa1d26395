use Rattle.std.proofs.Common.{sym, subst}
use Rattle.ultra_io.specs.TextBuffer.{Writes}
use Rattle.ultra_io.proofs.Writing.{◌then◌}
use Rattle.ultra_measure.specs.{declared.columns.Form.Form, Columns.number, Rows.first_text}
use Rattle.ultra_measure.proofs.columns.put_first.Goals as goal

pub returns-in-JobValues : goal.returns-in-JobValues
returns-in-JobValues g c =
    let P : Form → Type 0 = λ form. Writes g.S.Sink.taken g.S.Sink.failures (first_text form (c.args.name.now, number c.args.value)) c.args.buffer.now c.put_value-in-JobValues.new.buffer in
    subst P (sym c.in-JobValues.is) (c.put_count.ensures then c.put.ensures then c.put_value-in-JobValues.ensures)
