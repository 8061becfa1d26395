use Rattle.std.proofs.Common.{ap, ◌∙◌}
use Rattle.ultra_serial.specs.{ByPair.list_of, ByName.{one_at, list_or, place_of}}
use Rattle.ultra_serial.proofs.Places.{row_of_zeros}
use Rattle.ultra_serial.proofs.by_name.ListsByName.add_row.Goals as goal

pub returns : goal.returns
returns g c = λ whole p n.
    let s = c.args.self.now in
    ap (λ i. list_or (list_of s.others.lists p n) (one_at whole i))
    (ap (λ rows. place_of rows p n) c.in_ok-push.ensures.items
    ∙ row_of_zeros s.rows.items c.in_ok-zeros.field-0 c.in_ok-zeros.ensures p n)
