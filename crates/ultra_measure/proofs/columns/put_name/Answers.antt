use Rattle.std.proofs.Common.{ℕ, sym, subst}
use Rattle.std.specs.Prelude.{Option}
use Rattle.ultra_io.specs.TextBuffer.{Writes}
use Rattle.ultra_io.proofs.Writing.{◌then◌}
use Rattle.ultra_measure.specs.Rows.{name_text}
use Rattle.ultra_measure.proofs.columns.put_name.Goals as goal

pub returns-in-Some : goal.returns-in-Some
returns-in-Some g c =
    let P : Option ℕ → Type 0 = λ o. Writes g.S.Sink.taken g.S.Sink.failures (name_text c.args.name.now o) c.args.buffer.now c.put_number.new.self in
    subst P (sym c.in-Some.is) (c.put.ensures then c.put-in-Some.ensures then c.put_number.ensures)
