use Rattle.std.proofs.Common.{◌/◌, arith}
use Rattle.std.specs.Prelude.{decimal}
use Rattle.ultra_io.specs.FilledBytes.{IsWritten}
use Rattle.ultra_io.proofs.{Digits.{decimal_more, two_more}, WrittenBytes.◌next◌, filled_bytes.FilledBytes.+write_digits.Goals.{then-front-lt100, else-front-lt100}}
use Rattle.ultra_io.proofs.filled_bytes.FilledBytes.+write_digits.Goals as goal

pub write_one_or_two-behind-requires-clause-room : goal.write_one_or_two-behind-requires-clause-room
write_one_or_two-behind-requires-clause-room t c = omega (arith, two_more c.args.number c.if-number-lt100.false c.ranges.number.fits)

pub write_digits-behind-requires : goal.write_digits-behind-requires
write_digits-behind-requires t c = omega (arith, two_more c.args.number c.if-number-lt100.false c.ranges.number.fits)

pub write_pair-requires-clause-room : goal.write_pair-requires-clause-room
write_pair-requires-clause-room t c =
    let front : IsWritten (decimal (c.args.number / 100)) c.args.at c.args.self.now.bytes c.if-front-lt100.self.bytes c.if-front-lt100.behind = elim c.if-front-lt100.branch [
      | then-front-lt100 w ↦ rw (w.self-is, w.behind-is) w.write_one_or_two-behind.ensures
      | else-front-lt100 w ↦ rw (w.self-is, w.behind-is) w.write_digits-behind.ensures
    ] in
    omega (arith, front.longer, two_more c.args.number c.if-number-lt100.false c.ranges.number.fits)

pub returns : goal.returns
returns t c =
    let front : IsWritten (decimal (c.args.number / 100)) c.args.at c.args.self.now.bytes c.if-front-lt100.self.bytes c.if-front-lt100.behind = elim c.if-front-lt100.branch [
      | then-front-lt100 w ↦ rw (w.self-is, w.behind-is) w.write_one_or_two-behind.ensures
      | else-front-lt100 w ↦ rw (w.self-is, w.behind-is) w.write_digits-behind.ensures
    ] in
    rw (decimal_more c.args.number c.if-number-lt100.false c.ranges.number.fits) (front next c.write_pair.ensures)
