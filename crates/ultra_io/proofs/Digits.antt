-- the decimal digits of a number, two at a time
use Rattle.std.proofs.Common.{ℕ, ◌≡◌, ◌+◌, ◌/◌, ◌%◌, ◌^◌, ◌<◌, ◌≤◌, ◌++◌, length, ap, arith, append_assoc, length-append}
use Rattle.std.proofs.lemmas.Fmt.{decimal_digit, decimal_step, length-decimal-le}
use Rattle.std.specs.Prelude.{decimal}
use Rattle.ultra_io.specs.FilledBytes.{two_digits}

pub decimal_two : (n : ℕ) → 10 ≤ n → n < 100 → decimal n ≡ two_digits n
decimal_two n least most = rw (decimal_step n least (omega arith), decimal_digit (n / 10) (omega arith))

pub decimal_more : (n : ℕ) → 100 ≤ n → n < 2 ^ 64 → decimal n ≡ decimal (n / 100) ++ two_digits (n % 100)
decimal_more n least fits =
    let a : n / 10 / 10 ≡ n / 100 = omega arith in
    let b : n / 10 % 10 ≡ n % 100 / 10 = omega arith in
    let c : n % 10 ≡ n % 100 % 10 = omega arith in
    rw (decimal_step n (omega arith) fits, decimal_step (n / 10) (omega arith) (omega arith), append_assoc, a, b, ← c)

pub two_more : (n : ℕ) → 100 ≤ n → n < 2 ^ 64 → length (decimal n) ≡ length (decimal (n / 100)) + 2
two_more n least fits = omega (arith, ap length (decimal_more n least fits), length-append (decimal (n / 100)) (two_digits (n % 100)))

-- how many digits there are at most: of a word of 32 bits, and of one of 64
pub few_digits : (n : ℕ) → n < 2 ^ 32 → length (decimal n) ≤ 10
few_digits n fits = length-decimal-le 10 n (omega arith) (omega arith) (omega arith)

pub more_digits : (n : ℕ) → n < 2 ^ 64 → length (decimal n) ≤ 20
more_digits n fits = length-decimal-le 20 n (omega arith) (omega arith) (omega arith)
