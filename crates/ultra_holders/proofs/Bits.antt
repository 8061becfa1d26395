-- the numbers of the units of a kind, by the bits of a word
use Rattle.std.proofs.Common.{ℕ, zero, suc, ◌≡◌, ◌+◌, ◌-◌, ◌*◌, ◌%◌, ◌^◌, ◌<◌, ◌≤◌, List, [], ◌∷◌, ◌++◌, Bool, true, false, ◌&&◌, refl, sym, ◌∙◌, ap, ◌⊎◌, inl, inr, append-nil, arith, w64, bit_and, nat_lt}
use Rattle.std.specs.{Prelude.◌==◌, List.{range_with_len, filter}}
use Rattle.std.proofs.{lemmas.{Bool.{cases_lt, Decides.nat_tests}, List.Elements.filter-append}, Math.Pow.pow-lt}
use Rattle.std.proofs.lemmas.Nat.Bits.{bit_at-lt, bit_at-zero, bit_at-trailing_zeros, bit_at_and, bit_at_ones, bit_at_ones_above}
use Rattle.ultra_topology.specs.Set.{AreBits, HasNoneFrom, IsFirstFrom, has_bit, has_unit, word_end}
use Rattle.ultra_topology.proofs.Set.{behind, bits_behind, first}
use Rattle.ultra_holders.specs.{Holders.{holders_left, numbers_from, numbers_of_bits}, declared.holders.Holders.Holders}
use Rattle.ultra_holders.proofs.Skipped.{range_parts, first_passes, none_passes}

-- ---- numbers that pass a test
same_pass : (p q : ℕ → Bool) (a n : ℕ) → ((k : ℕ) → a ≤ k → k < a + n → p k ≡ q k) → filter p (range_with_len a n) ≡ filter q (range_with_len a n)
same_pass p q a zero same = refl
same_pass p q a (suc n) same = let rest = same_pass p q (a + 1) n in let here = same a in grind arith

module _ (p : ℕ → Bool) (a n m l : ℕ) (whole : n + m ≡ l) where
  parts_pass : filter p (range_with_len a l) ≡ filter p (range_with_len a n) ++ filter p (range_with_len (a + n) m)
  parts_pass = ap (filter p) (range_parts a n m l whole) ∙ filter-append p (range_with_len a n) (range_with_len (a + n) m)

  -- where none of the first n does, the others alone
  others_pass : ((k : ℕ) → a ≤ k → k < a + n → p k ≡ false) → filter p (range_with_len a l) ≡ filter p (range_with_len (a + n) m)
  others_pass none = parts_pass ∙ ap (λ xs. xs ++ filter p (range_with_len (a + n) m)) (none_passes p a n none)

-- ---- the bits of a word; bit 0 is that of number a
pub no_numbers : (a : ℕ) → numbers_of_bits 0 a ≡ []
no_numbers a = none_passes (λ k. has_bit 0 (k - a)) a 64 (λ k from to. let clear = bit_at-zero (k - a) in grind arith)

-- the first of them, and the others
module _ (bits a : ℕ) (some : 0 < bits) (fits : bits < 2 ^ 64) where
  abbrev there : ℕ → Bool
  there k = has_bit bits (k - a)

  abbrev later : ℕ → Bool
  later k = has_bit (behind bits) (k - a)

  kept : (i : ℕ) → first bits < i → has_bit bits i ≡ has_bit (behind bits) i
  kept i after = let bit = bits_behind bits some fits i in grind (arith, nat_tests)

  gone : (i : ℕ) → i ≤ first bits → has_bit (behind bits) i ≡ false
  gone i before = let bit = bits_behind bits some fits i in grind (arith, nat_tests)

  pub first_number : numbers_of_bits bits a ≡ (a + first bits) ∷ numbers_of_bits (behind bits) a
  first_number =
      let lowest = bit_at-trailing_zeros w64 bits some fits in
      let place : a + first bits - a ≡ first bits = omega arith in
      let left : ℕ = 63 - first bits in
      let one = first_passes there a 64 (a + first bits) left (omega arith) (omega arith) (rw place (ap (λ x. x == 1) lowest.1)) (λ k from to. ap (λ x. x == 1) (lowest.2 (k - a) (omega arith))) in
      let same = same_pass there later (a + first bits + 1) left (λ k from to. kept (k - a) (omega arith)) in
      let rest = others_pass later a (first bits + 1) left 64 (omega arith) (λ k from to. gone (k - a) (omega arith)) in
      let start : a + (first bits + 1) ≡ a + first bits + 1 = omega arith in
      one ∙ ap (λ xs. (a + first bits) ∷ xs) (same ∙ sym (rw start at rest))

-- ---- of the units of a kind `count` from number a on, whose bits in the word of the first are given
module _ (units : List ℕ) (base a unit count bits : ℕ) (place : unit ≡ base + a) (are : AreBits (λ k. nat_lt k (unit + count) && has_unit units k) unit (word_end unit) bits) where
  abbrev of_word : ℕ → Bool
  of_word k = has_bit bits (k - a)

  abbrev of_set : ℕ → Bool
  of_set k = has_unit units (base + k)

  -- the first n of the 64 are as in the set, and none of the others is there
  word_is : (n m : ℕ) → n + m ≡ 64 → unit + n ≤ word_end unit → n ≤ count → (word_end unit ≤ unit + n) ⊎ (count ≤ n) → numbers_of_bits bits a ≡ numbers_from units base a n
  word_is n m whole inside below past =
      let none = none_passes of_word (a + n) m (λ k from to. let bit = are.each (k - a) in grind (arith, nat_tests)) in
      let same = same_pass of_word of_set a n (λ k from to. let bit = are.each (k - a) in let here : unit + (k - a) ≡ base + k = omega arith in grind (arith, nat_tests)) in
      parts_pass of_word a n m 64 whole ∙ ap (λ xs. filter of_word (range_with_len a n) ++ xs) none ∙ append-nil _ ∙ same

  -- with those behind the word they are all
  pub with_others : numbers_of_bits bits a ++ numbers_from units base (word_end unit - base) (a + count - (word_end unit - base)) ≡ numbers_from units base a count
  with_others = elim (cases_lt (word_end unit) (unit + count)) [
    | inl more ↦
        let n : ℕ = word_end unit - unit in
        let here = word_is n (64 - n) (omega arith) (omega arith) (omega arith) (inl (omega arith)) in
        let parts = parts_pass of_set a n (count - n) count (omega arith) in
        let start : a + n ≡ word_end unit - base = omega arith in
        let rest : a + count - (word_end unit - base) ≡ count - n = omega arith in
        grind arith
    | inr last ↦
        let here = word_is count (64 - count) (omega arith) (omega arith) (omega arith) (inr (omega arith)) in
        let none : a + count - (word_end unit - base) ≡ 0 = omega arith in
        grind (arith, append-nil)
  ]

  -- where the first is in the set, its bit is there
  pub some_bits : 0 < count → has_unit units unit ≡ true → 0 < bits
  some_bits more there = elim (cases_lt 0 bits) [
    | inl some ↦ some
    | inr none ↦ let bit = are.each 0 in let clear = bit_at-zero 0 in let zero_bits : bits ≡ 0 = omega arith in grind (arith, nat_tests)
  ]

-- ---- of the units of a kind those that are in a set, from number a on, below `end`
module _ (units : List ℕ) (base a end : ℕ) where
  pub none_from : HasNoneFrom units (base + a) → numbers_from units base a (end - a) ≡ []
  none_from none = none_passes (λ k. has_unit units (base + k)) a (end - a) (λ k from to. none (base + k) (omega arith))

  module _ (unit : ℕ) (first : IsFirstFrom units (base + a) unit) where
    pub none_below : end ≤ unit - base → numbers_from units base a (end - a) ≡ []
    none_below beyond = none_passes (λ k. has_unit units (base + k)) a (end - a) (λ k from to. first.between (base + k) (omega arith) (omega (arith, first.after)))

    pub from_first : unit - base < end → numbers_from units base a (end - a) ≡ numbers_from units base (unit - base) (end - (unit - base))
    from_first within =
        let after = first.after in
        let start : a + (unit - base - a) ≡ unit - base = omega arith in
        rw start at (others_pass (λ k. has_unit units (base + k)) a (unit - base - a) (end - (unit - base)) (end - a) (omega arith) (λ k from to. first.between (base + k) (omega arith) (omega arith)))

-- where no bit of its word is left, a walk has those behind alone
pub behind_alone : (h : Holders) → h.bits ≡ 0 → holders_left h ≡ numbers_from h.units.now h.base h.next (h.end - h.next)
behind_alone h none =
    let empty : numbers_of_bits h.bits h.from ≡ [] = rw none (no_numbers h.from) in
    ap (λ xs. xs ++ numbers_from h.units.now h.base h.next (h.end - h.next)) empty

-- ---- bits without those from a place on
pub masked : (are : ℕ → Bool) (from to count bits : ℕ) → count < 64 → AreBits are from to bits → AreBits (λ k. nat_lt k (from + count) && are k) from to (bit_and bits (1 * 2 ^ (count % 64) % 2 ^ 64 - 1))
masked are from to count bits few is =
    let power : 2 ^ count < 2 ^ 64 = pow-lt few in
    let place : count % 64 ≡ count = omega arith in
    let mask : 1 * 2 ^ (count % 64) % 2 ^ 64 ≡ 2 ^ count = rw place (omega arith) in
    record { each = λ i. let bit = is.each i in let both = bit_at_and bits (2 ^ count - 1) i in let one = bit_at_ones count i in let none = bit_at_ones_above count i in let low = bit_at-lt bits i in rw mask (grind (arith, nat_tests)) }
