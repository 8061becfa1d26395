-- the highest bits of a number of 64 bits
use Rattle.std.proofs.Common.{◌≡◌, ℕ, ◌+◌, ◌-◌, ◌*◌, ◌/◌, ◌^◌, ◌<◌, ◌≤◌, sym, ◌∙◌, ap, subst, arith}
use Rattle.std.proofs.{Math.{Nat.div-lt_iff_lt-mul, Pow.pow_mono}, lemmas.Nat.{pow_pos, pow-add}}

module _ (x s : ℕ) (fits : x < 2 ^ 64) (few : s ≤ 6) where
  parts : 2 ^ 64 ≡ 2 ^ s * 2 ^ (64 - s)
  parts =
      let all : s + (64 - s) ≡ 64 = omega arith in
      ap (λ n. 2 ^ n) (sym all) ∙ pow-add 2 s (64 - s)

  pub high_few : x / 2 ^ (64 - s) < 2 ^ s
  high_few = (div-lt_iff_lt-mul {k = 2 ^ (64 - s)} {x = x} {y = 2 ^ s} (pow_pos (64 - s))).1 (subst (λ n. x < n) parts fits)

  pub high_fits : x / 2 ^ (64 - s) < 2 ^ 32
  high_fits =
      let below : x / 2 ^ (64 - s) < 2 ^ s = high_few in
      let small : 2 ^ s ≤ 2 ^ 32 = pow_mono {i = s} {j = 32} (omega arith) in
      omega arith

pub few_elements : (n s : ℕ) → s ≤ 6 → n < 2 ^ s → n < 64
few_elements n s few below =
    let small : 2 ^ s ≤ 2 ^ 6 = pow_mono {i = s} {j = 6} few in
    omega arith
