use Rattle.std.proofs.Common.{◌/◌, arith}
use Rattle.std.specs.Prelude.{decimal}
use Rattle.ultra_io.specs.FilledBytes.{IsWritten}
use Rattle.ultra_io.proofs.{Digits.{decimal_more, two_more}, WrittenBytes.◌next◌, filled_bytes.FilledBytes.write_three_or_more.Goals.{then-front-lt10000, else-front-lt10000}}
use Rattle.ultra_io.proofs.filled_bytes.FilledBytes.write_three_or_more.Goals as goal

pub write_up_to_four-behind-requires-clause-room : goal.write_up_to_four-behind-requires-clause-room
write_up_to_four-behind-requires-clause-room c = omega (arith, two_more c.args.number c.requires.three (omega arith))

pub write_digits-behind-requires : goal.write_digits-behind-requires
write_digits-behind-requires c = omega (arith, two_more c.args.number c.requires.three (omega arith))

pub write_pair-requires-clause-room : goal.write_pair-requires-clause-room
write_pair-requires-clause-room c =
    let front : IsWritten (decimal (c.args.number / 100)) c.args.at c.args.self.now.bytes c.if-front-lt10000.self.bytes c.if-front-lt10000.behind = elim c.if-front-lt10000.branch [
      | then-front-lt10000 w ↦ rw (w.self-is, w.behind-is) w.write_up_to_four-behind.ensures
      | else-front-lt10000 w ↦ rw (w.self-is, w.behind-is) w.write_digits-behind.ensures
    ] in
    omega (arith, front.longer, two_more c.args.number c.requires.three (omega arith))

pub returns : goal.returns
returns c =
    let front : IsWritten (decimal (c.args.number / 100)) c.args.at c.args.self.now.bytes c.if-front-lt10000.self.bytes c.if-front-lt10000.behind = elim c.if-front-lt10000.branch [
      | then-front-lt10000 w ↦ rw (w.self-is, w.behind-is) w.write_up_to_four-behind.ensures
      | else-front-lt10000 w ↦ rw (w.self-is, w.behind-is) w.write_digits-behind.ensures
    ] in
    rw (decimal_more c.args.number c.requires.three (omega arith)) (front next c.write_pair.ensures)
