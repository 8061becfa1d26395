-- the bits of sets of processing elements
use Rattle.std.proofs.Common.{ℕ, ◌≡◌, ◌-◌, ◌*◌, ◌/◌, ◌%◌, ◌^◌, ◌<◌, ◌≤◌, ◌==◌, ◌||◌, ◌&&◌, not, nat_lt, inl, inr, ap, w64, bit_and, bit_or, arith}
use Rattle.std.specs.Int.{bit_not}
use Rattle.std.proofs.lemmas.{Bool.{cases_lt, Decides.nat_tests}, Nat.and_le_l}
use Rattle.std.proofs.lemmas.Nat.Bits.{ones_shr, bit_at_ones, bit_at_ones_above, bit_at-lt, bit_at_or, bit_at_above, bit_at_set_same, bit_at_set_other, bit_at_clear_same, bit_at_clear_other, bit_at-trailing_zeros}
use Rattle.ultra_topology.specs.Set.{has_bit}
use Rattle.ultra_topology.proofs.Set.{first, behind, bits_behind, fewer_behind}
use Rattle.ultra_measure.specs.PeSet.{IsTaken}

pub ones_below : (n k : ℕ) → n ≤ 64 → has_bit ((2 ^ 64 - 1) / 2 ^ (64 - n)) k ≡ nat_lt k n
ones_below n k few =
    let left : 64 - (64 - n) ≡ n = omega (arith, few) in
    let shifted : (2 ^ 64 - 1) / 2 ^ (64 - n) ≡ 2 ^ n - 1 = rw left at (ones_shr 64 (64 - n) (omega arith)) in
    let one = bit_at_ones n k in
    let none = bit_at_ones_above n k in
    rw shifted (grind (arith, nat_tests))

pub in_either : (a b k : ℕ) → has_bit (bit_or a b) k ≡ (has_bit a k || has_bit b k)
in_either a b k =
    let either = bit_at_or a b k in
    let few_a = bit_at-lt a k in
    let few_b = bit_at-lt b k in
    grind (arith, nat_tests)

module _ (bits p : ℕ) (within : p < 64) where
  pub with_one : (k : ℕ) → has_bit (bit_or bits (1 * 2 ^ p % 2 ^ 64)) k ≡ (has_bit bits k || (k == p))
  with_one k =
      let same = bit_at_set_same w64 bits p within in
      let other = bit_at_set_other w64 bits p within k in
      grind (arith, nat_tests)

  -- a bit past the word isn't there
  pub without_one : bits < 2 ^ 64 → (k : ℕ) → has_bit (bit_and bits (bit_not w64 (1 * 2 ^ p % 2 ^ 64))) k ≡ (has_bit bits k && not (k == p))
  without_one fits k = elim (cases_lt k 64) [
    | inl low ↦
        let same = bit_at_clear_same w64 bits p within in
        let other = bit_at_clear_other w64 bits p within k low in
        grind (arith, nat_tests)
    | inr high ↦
        let before = bit_at_above bits 64 k fits high in
        let after = bit_at_above (bit_and bits (bit_not w64 (1 * 2 ^ p % 2 ^ 64))) 64 k (omega (arith, and_le_l bits (bit_not w64 (1 * 2 ^ p % 2 ^ 64)), fits)) high in
        grind (arith, nat_tests)
  ]

pub taken : (bits : ℕ) → 0 < bits → bits < 2 ^ 64 → IsTaken (first bits) bits (behind bits)
taken bits some fits =
    let lowest = bit_at-trailing_zeros w64 bits some fits in
    record {
      within = lowest.0;
      there = ap (λ x. x == 1) lowest.1;
      others = λ k other.
          let bit = bits_behind bits some fits k in
          let below = lowest.2 k in
          grind (arith, nat_tests);
      fewer = fewer_behind bits some fits;
    }
