use Rattle.std.proofs.{Common.{length, ap, arith}, lemmas.Fmt.decimal_digit}
use Rattle.ultra_io.proofs.Digits.{decimal_two}
use Rattle.ultra_io.proofs.filled_bytes.FilledBytes.write_one_or_two.Goals as goal

pub write_digit-requires-clause-room : goal.write_digit-requires-clause-room
write_digit-requires-clause-room c = omega (arith, ap length (decimal_digit c.args.number c.if-number-lt10.true))

pub write_pair-requires-clause-room : goal.write_pair-requires-clause-room
write_pair-requires-clause-room c = omega (arith, ap length (decimal_two c.args.number c.if-number-lt10.false c.requires.number))

pub returns-then-number-lt10 : goal.returns-then-number-lt10
returns-then-number-lt10 c = rw (decimal_digit c.args.number c.if-number-lt10.true) c.write_digit.ensures

pub returns-else-number-lt10 : goal.returns-else-number-lt10
returns-else-number-lt10 c = rw (decimal_two c.args.number c.if-number-lt10.false c.requires.number) c.write_pair.ensures
