use Rattle.std.proofs.Common.{◌≡◌, ℕ}
use Rattle.ultra_serial.specs.LatestNumbers.{number_in}
use Rattle.ultra_serial.proofs.latest_numbers.LatestNumbers.new.Given as goal

abbrev pub invariant-loop : goal.invariant-loop
invariant-loop l = (p a : ℕ) → number_in l.numbers p a ≡ 0
