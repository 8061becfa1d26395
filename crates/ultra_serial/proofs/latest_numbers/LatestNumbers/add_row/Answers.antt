use Rattle.std.proofs.Common.{◌∙◌, ap}
use Rattle.std.specs.Prelude.{slice_get}
use Rattle.ultra_serial.specs.LatestNumbers.{numbers_of, number_under}
use Rattle.ultra_serial.proofs.LatestNumbers.{row_added}
use Rattle.ultra_serial.proofs.latest_numbers.LatestNumbers.add_row.Goals as goal

pub returns : goal.returns
returns c = λ none p a.
    let s = c.args.self.now in
    ap (λ rows. numbers_of (slice_get rows p) (number_under s.others p) a) c.in_ok-push.ensures.items
    ∙ row_added s.rows.items (number_under s.others) c.in_ok-new.field-0 c.in_ok-new.ensures none p a
