use Rattle.std.proofs.Common.{sym, subst, ⊎_elim}
use Rattle.ultra_io.specs.TextBuffer.{Writes}
use Rattle.ultra_io.proofs.Writing.{◌then◌}
use Rattle.ultra_measure.specs.{declared.columns.Form.Form, Rows.{column_text, name_text, value_if}}
use Rattle.ultra_measure.proofs.columns.put_column.Goals as goal

pub returns-in-Values : goal.returns-in-Values
returns-in-Values g c =
    let P : Form → Type 0 = λ form. Writes g.S.Sink.taken g.S.Sink.failures (column_text form (name_text c.args.name.now c.args.stage, value_if c.args.value)) c.args.buffer.now c.put_value_if.new.buffer in
    let wrote = c.put.ensures then c.put_value_if.ensures in
    ⊎_elim (λ is. subst P (sym is) wrote) (λ is. subst P (sym is.1) wrote) c.in-Values.is
