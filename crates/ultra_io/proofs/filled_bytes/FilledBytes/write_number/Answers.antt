use Rattle.std.proofs.Common.{arith}
use Rattle.ultra_io.proofs.Digits.{few_digits}
use Rattle.ultra_io.proofs.filled_bytes.FilledBytes.write_number.Goals as goal

pub write_one_or_two-requires-clause-room : goal.write_one_or_two-requires-clause-room
write_one_or_two-requires-clause-room c = omega (arith, few_digits c.args.number c.ranges.number.fits)

pub write_three_or_more-requires-clause-room : goal.write_three_or_more-requires-clause-room
write_three_or_more-requires-clause-room c = omega (arith, few_digits c.args.number c.ranges.number.fits)

pub returns-then-number-lt100-clause-few : goal.returns-then-number-lt100-clause-few
returns-then-number-lt100-clause-few c = omega (arith, c.write_one_or_two.ensures.longer, few_digits c.args.number c.ranges.number.fits)

pub returns-else-number-lt100-clause-few : goal.returns-else-number-lt100-clause-few
returns-else-number-lt100-clause-few c = omega (arith, c.write_three_or_more.ensures.longer, few_digits c.args.number c.ranges.number.fits)
