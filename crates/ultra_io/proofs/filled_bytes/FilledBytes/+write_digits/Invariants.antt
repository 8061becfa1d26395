use Rattle.ultra_io.proofs.filled_bytes.FilledBytes.+write_digits.Given as goal

-- two digits fewer at each call
abbrev pub decreases-write_digits : goal.decreases-write_digits
decreases-write_digits l = l.number
