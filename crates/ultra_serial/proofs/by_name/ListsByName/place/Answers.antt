use Rattle.std.proofs.{Common.{arith, sym, ◌∙◌, ap}, lemmas.Option.{slice_get_read, slice_get_past}}
use Rattle.ultra_serial.specs.ByName.{place_in}
use Rattle.ultra_serial.proofs.{Places.index_past, by_name.ListsByName.place.Goals.{else-row-len-via-then-row-len+else-number-len, else-row-len-via-else-row-len}}
use Rattle.ultra_serial.proofs.by_name.ListsByName.place.Goals as goal

pub returns : goal.returns
returns g c =
    let rows = c.args.self.now.rows in
    let p = c.args.name.pe in
    let n = c.args.name.number in
    sym (elim c.else-row-len.branch [
      | else-row-len-via-then-row-len+else-number-len w ↦
          let row = w.index.result.now in
          ap (λ o. place_in o n) (slice_get_read rows.items rows.len p row rows.ok.0 (omega (arith, w.if-row-len.true, c.len.ensures)) w.index.ensures) ∙ index_past row.items n (omega (arith, row.ok.0, w.if-number-len.false, w.len-then-row-len.ensures))
      | else-row-len-via-else-row-len w ↦ ap (λ o. place_in o n) (slice_get_past rows.items p (omega (arith, rows.ok.0, w.if-row-len.false, c.len.ensures)))
    ])
