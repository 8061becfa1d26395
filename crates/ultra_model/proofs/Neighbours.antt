-- the two ports of a switch
use Rattle.std.proofs.Common.{◌≡◌, ◌≢◌, ℕ, zero, suc, ◌+◌, ◌*◌, ◌/◌, ◌<◌, true, false, refl, arith}
use Rattle.std.specs.Prelude.{◌==◌}
use Rattle.std.proofs.lemmas.Bool.Decides.{nat_tests}
use Rattle.ultra_model.specs.Balance.{weight}

pub next_is : (s : ℕ) → (s + 1 == 0) ≡ false
next_is s = grind (arith, nat_tests)

pub itself : (n : ℕ) → (n == n) ≡ true
itself n = grind (arith, nat_tests)

pub other : (p q : ℕ) → p ≢ q → (p == q) ≡ false
other p q h = grind (arith, nat_tests)

-- one of two neighbours
pub one_neighbour : (k b n : ℕ) → b < 2 → n ≡ 2 * k + b → weight (n == 2 * k) + weight (n == 2 * k + 1) ≡ 1
one_neighbour k zero n h e = let same : n ≡ 2 * k = omega (arith, e) in rw (same, itself (2 * k), other (2 * k) (2 * k + 1) (omega arith)) refl
one_neighbour k (suc zero) n h e = let same : n ≡ 2 * k + 1 = omega (arith, e) in rw (same, itself (2 * k + 1), other (2 * k + 1) (2 * k) (omega arith)) refl
one_neighbour k (suc (suc b)) n h e = absurd (omega (arith, h))

pub even_half : (k : ℕ) → 2 * k / 2 ≡ k
even_half k = omega arith

pub odd_half : (k : ℕ) → (2 * k + 1) / 2 ≡ k
odd_half k = omega arith
