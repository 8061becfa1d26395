use Rattle.std.proofs.Common.{arith}
use Rattle.ultra_io.proofs.{Digits.{decimal_more, two_more}, WrittenBytes.◌next◌}
use Rattle.ultra_io.proofs.filled_bytes.FilledBytes.write_up_to_four.Goals as goal

pub write_one_or_two-behind-requires-clause-room : goal.write_one_or_two-behind-requires-clause-room
write_one_or_two-behind-requires-clause-room c = omega (arith, two_more c.args.number c.if-number-lt100.false (omega arith))

pub write_pair-requires-clause-room : goal.write_pair-requires-clause-room
write_pair-requires-clause-room c = omega (arith, c.write_one_or_two-behind.ensures.longer, two_more c.args.number c.if-number-lt100.false (omega arith))

pub returns-else-number-lt100 : goal.returns-else-number-lt100
returns-else-number-lt100 c =
    rw (decimal_more c.args.number c.if-number-lt100.false (omega arith)) (c.write_one_or_two-behind.ensures next c.write_pair.ensures)
