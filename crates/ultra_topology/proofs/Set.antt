-- Units and the bits of their words, and walks over units.
use Rattle.std.proofs.Common.{◌≡◌, ℕ, min, Bool, ◌&&◌, ◌+◌, ◌-◌, ◌*◌, ◌/◌, ◌%◌, ◌^◌, ◌<◌, ◌≤◌, true, false, List, [], ◌∷◌, zero, suc, refl, length, get_or, map, set, eqb, sym, ◌∙◌, ap, inl, inr, arith, eq-eqb, get_or-set_same, get_or-set_other, replicate, w64, bit_and, bit_or, nat_lt, not, ◌||◌, ◌≢◌, ◌==◌}
use Rattle.ultra_topology.proofs.Common.{cases_lt, eqb-true, get_or-replicate, get_or_past, length-replicate, nat_tests, AreBits, has_bit, comes_to, word_end, HasCome, AreSameBut, HasNoneFrom, HasNoneWithin, IsFirstOf, IsWalk, Walk}
use Rattle.std.proofs.lemmas.{List.FromFn.get_or-map-range_with_len, Nat.{le_or_l, le_or_r, and_le_r, shr-shr}}
use Rattle.std.proofs.lemmas.Nat.Bits.{bit_at-lt, bit_at-suc, bit_at-zero, bit_at_lowest, bit_at_above, bit_at_and, bit_at_not, bit_at_ones, bit_at_or, bit_at_set_same, bit_at_set_other, bit_at_clear_same, bit_at_clear_other, bit_at-trailing_zeros}
use Rattle.std.specs.{Int.{bit_at, bit_not, trailing_zeros}, List.range_with_len}
use Rattle.ultra_topology.specs.Set.{has_unit}

-- ---- one unit
pub none_there : (n k : ℕ) → has_unit (replicate n 0) k ≡ false
unfolding has_unit
none_there n k = grind (arith, get_or-replicate, get_or_past, length-replicate)

pub none_in_empty : HasNoneFrom (replicate 5 0) 0
none_in_empty k _ = none_there 5 k

-- a unit past the words isn't in the set
pub past_words : (words : List ℕ) (k : ℕ) → 64 * length words ≤ k → has_unit words k ≡ false
unfolding has_unit
past_words words k past = grind (arith, get_or_past)

-- the word of a unit is written
module _ (words : List ℕ) (number : ℕ) (within : number < 64 * length words) where
  abbrev word : ℕ
  word = get_or words (number / 64) 0

  abbrev bit : ℕ
  bit = 1 * 2 ^ (number % 64) % 2 ^ 64

  abbrev with_word : ℕ → List ℕ
  with_word v = set words (number / 64) v

  pub inserted : (k : ℕ) → has_unit (with_word (bit_or word bit)) k ≡ (k == number || has_unit words k)
  unfolding has_unit
  inserted k = grind (arith, nat_tests, get_or-set_same, get_or-set_other, bit_at_set_same w64 word (number % 64) (omega arith), bit_at_set_other w64 word (number % 64) (omega arith) (k % 64))

  pub removed : (k : ℕ) → has_unit (with_word (bit_and word (bit_not w64 bit))) k ≡ (not (k == number) && has_unit words k)
  unfolding has_unit
  removed k = grind (arith, nat_tests, get_or-set_same, get_or-set_other, bit_at_clear_same w64 word (number % 64) (omega arith), bit_at_clear_other w64 word (number % 64) (omega arith) (k % 64) (omega arith))

  -- a mask of ones keeps every unit
  pub all_kept : (mask : ℕ) → mask ≡ bit_not w64 0 → (k : ℕ) → has_unit (with_word (bit_and word mask)) k ≡ has_unit words k
  unfolding has_unit
  all_kept mask whole k = grind (arith, bit_at-lt, bit_at_and word mask (k % 64), bit_at_ones 64 (k % 64) (omega arith), get_or-set_same, get_or-set_other)

-- ---- the bits of a word as units
pub none_in_word : (words : List ℕ) (k w : ℕ) → get_or words w 0 ≡ 0 → k / 64 ≡ w → has_unit words k ≡ false
unfolding has_unit
none_in_word words k w none is = let clear = bit_at-zero (k % 64) in grind arith

bits_of_word : (words : List ℕ) (w : ℕ) → get_or words w 0 < 2 ^ 64 → AreBits (has_unit words) (w * 64) ((w + 1) * 64) (get_or words w 0)
unfolding has_unit
bits_of_word words w fits = let past = bit_at_above (get_or words w 0) 64 in grind (arith, nat_tests)

-- a walk at the first unit of some bits, which begin with number `from`
abbrev pub walk_at : ℕ → ℕ → Walk
walk_at from bits = record { unit = from + trailing_zeros w64 bits; rest = bits / 2 ^ trailing_zeros w64 bits / 2 }

module _ (are : ℕ → Bool) (from to bits : ℕ) (is : AreBits are from to bits) where
  -- what is left of the bits when the first n are gone
  shifted : (n later rest : ℕ) → later ≡ from + n → rest ≡ bits / 2 ^ n → AreBits are later to rest
  shifted n later rest place left =
      let same = λ (i : ℕ). ap (λ x. x % 2) (shr-shr bits n i) in
      let there = λ (i : ℕ). is.each (n + i) in
      grind arith

  pub bit_of_number : (k : ℕ) → from ≤ k → k < to → has_bit bits (k - from) ≡ are k
  bit_of_number k after before =
      let there = is.each (k - from) in
      let place : from + (k - from) ≡ k = omega arith in
      grind (arith, nat_tests)

  -- a walk that has come to the first unit of the bits, which are of one word
  pub come : (word : ℕ) → to ≡ (word + 1) * 64 → word * 64 ≤ from → word < 5 → 0 < bits → bits < 2 ^ 64 → HasCome are from (walk_at from bits)
  come word end low small some fits =
      let lowest = bit_at-trailing_zeros w64 bits some fits in
      let there = is.each (trailing_zeros w64 bits) in
      let inside : (from + trailing_zeros w64 bits < to) × (are (from + trailing_zeros w64 bits) ≡ true) = grind (arith, nat_tests) in
      let between : HasNoneWithin are from (from + trailing_zeros w64 bits) = λ k after before. (let there = bit_of_number k after (omega arith) in let clear = lowest.2 (k - from) (omega arith) in grind arith) in
      let same : word_end (from + trailing_zeros w64 bits) ≡ to = omega arith in
      record { first = grind arith; rest = rw same (shifted (trailing_zeros w64 bits + 1) _ _ (omega arith) (shr-shr bits _ 1)) }

-- the units of a word from a number on
pub bits_from : (words : List ℕ) (from : ℕ) → get_or words (from / 64) 0 < 2 ^ 64 → AreBits (has_unit words) from (word_end from) (get_or words (from / 64) 0 / 2 ^ (from % 64))
bits_from words from fits = shifted _ _ _ _ (bits_of_word words (from / 64) fits) (from % 64) from _ (omega arith) refl

module _ (words : List ℕ) (from rest : ℕ) (is : AreBits (has_unit words) from (word_end from) rest) where
  pub none_in_rest : rest ≡ 0 → HasNoneWithin (has_unit words) from (word_end from)
  none_in_rest none k after before = let there = bit_of_number _ _ _ _ is k after before in grind (arith, bit_at-zero)

  pub first_in_rest : from < 320 → 0 < rest → rest < 2 ^ 64 → IsFirstOf (has_unit words) from (from + trailing_zeros w64 rest)
  first_in_rest small some fits = (come _ _ _ _ is (from / 64) refl (omega arith) (omega arith) some fits).first

  pub first_past_rest : (k : ℕ) → rest ≡ 0 → IsFirstOf (has_unit words) (word_end from) k → IsFirstOf (has_unit words) from k
  first_past_rest k none first = let clear = none_in_rest none in grind arith

-- ---- the lowest bit
-- one less than a number has its bits above the lowest, and not that one
one_less_above : (t n i : ℕ) → t < i → bit_at n t ≡ 1 → ((j : ℕ) → j < t → bit_at n j ≡ 0) → bit_at (n - 1) i ≡ bit_at n i
one_less_above t n zero order one none = absurd (omega arith)
one_less_above zero n (suc i) order one none =
    let half : (n - 1) / 2 ≡ n / 2 = omega (arith, one, bit_at_lowest n) in
    bit_at-suc (n - 1) i ∙ ap (λ x. bit_at x i) half ∙ sym (bit_at-suc n i)
one_less_above (suc t) n (suc i) order one none =
    let half : (n - 1) / 2 ≡ n / 2 - 1 = omega (arith, none 0 (omega arith), bit_at_lowest n) in
    bit_at-suc (n - 1) i ∙ ap (λ x. bit_at x i) half
    ∙ one_less_above t (n / 2) i (omega arith) (sym (bit_at-suc n t) ∙ one) (λ j before. sym (bit_at-suc n j) ∙ none (suc j) (omega arith)) ∙ sym (bit_at-suc n i)

one_less_at : (t n : ℕ) → bit_at n t ≡ 1 → ((j : ℕ) → j < t → bit_at n j ≡ 0) → bit_at (n - 1) t ≡ 0
one_less_at zero n one none = omega (arith, one, bit_at_lowest n, bit_at_lowest (n - 1))
one_less_at (suc t) n one none =
    let half : (n - 1) / 2 ≡ n / 2 - 1 = omega (arith, none 0 (omega arith), bit_at_lowest n) in
    bit_at-suc (n - 1) t ∙ ap (λ x. bit_at x t) half ∙ one_less_at t (n / 2) (sym (bit_at-suc n t) ∙ one) (λ j before. sym (bit_at-suc n j) ∙ none (suc j) (omega arith))

-- the first of some bits, and the bits without it
abbrev pub first : ℕ → ℕ
first bits = trailing_zeros w64 bits

abbrev pub behind : ℕ → ℕ
behind bits = bit_and bits (bits - 1)

module _ (bits : ℕ) (some : 0 < bits) (fits : bits < 2 ^ 64) where
  pub bits_behind : (i : ℕ) → has_bit (behind bits) i ≡ (nat_lt (first bits) i && has_bit bits i)
  bits_behind i =
      let lowest = bit_at-trailing_zeros w64 bits some fits in
      let below = one_less_at (first bits) bits lowest.1 lowest.2 in
      let above = λ (order : first bits < i). one_less_above (first bits) bits i order lowest.1 lowest.2 in
      grind (arith, nat_tests, bit_at-lt, bit_at_and bits (bits - 1) i)

  pub fewer_behind : behind bits < bits
  fewer_behind = let fewer = and_le_r bits (bits - 1) in omega (arith, fewer)

-- ---- uniting and taking away

module _ (a b : List ℕ) (five_a : length a ≡ 5) (five_b : length b ≡ 5) where
  -- five words, each made of one of a and one of b
  abbrev made : (ℕ → ℕ → ℕ) → List ℕ
  made op = map (λ i. op (get_or a i 0) (get_or b i 0)) (range_with_len 0 5)

  word_by_word : (op : ℕ → ℕ → ℕ) (f : Bool → Bool → Bool) → f false false ≡ false → ((i j : ℕ) → i < 5 → j < 64 → has_bit (op (get_or a i 0) (get_or b i 0)) j ≡ f (has_bit (get_or a i 0) j) (has_bit (get_or b i 0) j))
      → (k : ℕ) → has_unit (made op) k ≡ f (has_unit a k) (has_unit b k)
  unfolding has_unit
  word_by_word op f none bits k = elim (cases_lt (k / 64) 5) [
    | inl within ↦ ap (λ w. has_bit w (k % 64)) (get_or-map-range_with_len (λ i. op (get_or a i 0) (get_or b i 0)) 0 5 _ (k / 64) 0 within (omega arith)) ∙ bits _ (k % 64) within (omega arith)
    | inr past ↦ rw (past_words (made op) k (omega arith), past_words a k (omega arith), past_words b k (omega arith)) (sym none)
  ]

  pub union : (k : ℕ) → has_unit (made bit_or) k ≡ has_unit a k || has_unit b k
  union = word_by_word bit_or (λ x y. x || y) refl (λ i j _ _. grind (arith, bit_at_or))

  pub difference : ((i : ℕ) → i < 5 → get_or b i 0 < 2 ^ 64) → (k : ℕ) → has_unit (made (λ x y. bit_and x (bit_not w64 y))) k ≡ has_unit a k && not (has_unit b k)
  difference fits = word_by_word (λ x y. bit_and x (bit_not w64 y)) (λ x y. x && not y) refl (λ i j row within. let clear = bit_at_not w64 (get_or b i 0) j (fits i row) within in grind (arith, bit_at_and, bit_at-lt))

-- ---- a walk, which comes to each unit of a set

pub is_walk : (are : ℕ → Bool) (from : ℕ) (w : Walk) → HasCome are from w → IsWalk w
is_walk are from w come = let there = come.rest.each in grind (arith, nat_tests)

pub come_in_word : (words : List ℕ) (word from : ℕ) → word < 5 → get_or words word 0 < 2 ^ 64 → 0 < get_or words word 0 → from ≤ word * 64 → HasNoneWithin (has_unit words) from (word * 64)
    → HasCome (has_unit words) from (walk_at (word * 64) (get_or words word 0))
come_in_word words word from small fits some order none =
    let here = come _ _ _ _ (bits_of_word words word fits) word refl (omega arith) small some fits in
    record { first = grind arith; rest = here.rest }

-- where no unit of a word and behind it is in a set, the word is zero
pub zero_where_none : (words : List ℕ) (w from : ℕ) → HasNoneFrom words from → from ≤ w * 64 → w < 5 → get_or words w 0 < 2 ^ 64 → get_or words w 0 ≡ 0
zero_where_none words w from none after small fits = elim (cases_lt 0 (get_or words w 0)) [
  | inl some ↦ (let here = (come_in_word words w (w * 64) small fits some (omega arith) (λ k low high. absurd (omega arith))).first in grind arith)
  | inr least ↦ omega arith
]

pub come_on : (w : Walk) → IsWalk w → 0 < w.rest → w.rest < 2 ^ 64 → (words : List ℕ) → HasCome (comes_to w words) (w.unit + 1) (walk_at (w.unit + 1) w.rest)
come_on w is some fits words =
    let bits : AreBits (comes_to w words) (w.unit + 1) (word_end w.unit) w.rest = (let inside = is.within in grind (arith, nat_tests)) in
    come _ _ _ _ bits (w.unit / 64) refl (omega arith) (let small = is.small in omega arith) some fits

pub ruleset word_steps = (come_in_word, none_in_word, past_words, bit_at-trailing_zeros)

pub ruleset rest_steps = (past_words, none_in_rest, first_in_rest, first_past_rest)

pub ruleset set_steps = (none_in_empty, inserted, removed, all_kept, none_in_word, past_words, union, difference, le_or_l, le_or_r, eqb-true)
