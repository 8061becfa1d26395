use Rattle.std.proofs.Common.{arith}
use Rattle.ultra_io.proofs.Digits.{more_digits}
use Rattle.ultra_io.proofs.filled_bytes.FilledBytes.write_count.Goals as goal

pub write_digits-requires : goal.write_digits-requires
write_digits-requires c = omega (arith, more_digits c.args.count c.ranges.count.fits)

pub returns-clause-few : goal.returns-clause-few
returns-clause-few c = omega (arith, c.write_digits.ensures.longer, more_digits c.args.count c.ranges.count.fits)
