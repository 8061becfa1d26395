-- the counts of latencies, in a list by latency
use Rattle.std.proofs.Common.{ℕ, zero, suc, List, [], ◌∷◌, ◌≡◌, inl, inr, ◌+◌, ◌<◌, ◌≤◌, Bool, true, false, length, get_or, refl, sym, ap, ◌∙◌, subst, arith}
use Rattle.std.proofs.lemmas.Bool.Decides.{eqb_tells, nat_tests}
use Rattle.std.specs.{Prelude.{◌==◌, slice_set}, List.{AllByRecursion, Sorted.IsNonDecreasingBy, flat_map, insert, range_with_len}}
use Rattle.ultra_model.specs.{Balance.weight}
use Rattle.ultra_statistics.specs.Latencies.{answered_in, latency_row, count_of, count_row, AreByLatency}
use Rattle.ultra_statistics.specs.declared.latencies.LatencyCount.{LatencyCount}

same_test : (a : ℕ) → (a == a) ≡ true
same_test a = grind (arith, nat_tests)

below_test : (a b : ℕ) → a < b → (a == b) ≡ false
below_test a b h = grind (arith, nat_tests)

above_test : (a b : ℕ) → b < a → (a == b) ≡ false
above_test a b h = grind (arith, nat_tests)

is_same : (a b : ℕ) → (a == b) ≡ true → a ≡ b
is_same a b h = grind (arith, nat_tests)

-- a count that is one more, a count behind the first, and a first count
one_more : (b : Bool) (a r : ℕ) → elim b [ true ↦ a + 1 | false ↦ r ] ≡ elim b [ true ↦ a | false ↦ r ] + weight b
one_more true a r = refl
one_more false a r = omega arith

behind_first : (b : Bool) (a r s w : ℕ) → (b ≡ true → w ≡ 0) → s ≡ r + w → elim b [ true ↦ a | false ↦ s ] ≡ elim b [ true ↦ a | false ↦ r ] + w
behind_first true a r s w none is = omega (arith, none refl)
behind_first false a r s w none is = is

new_first : (b : Bool) (r : ℕ) → (b ≡ true → r ≡ 0) → elim b [ true ↦ 1 | false ↦ r ] ≡ r + weight b
new_first true r none = omega (arith, none refl)
new_first false r none = omega arith

-- ---- in the order of latencies
above_least : (k : ℕ) (ps : List LatencyCount) → AreByLatency k ps → (j : ℕ) (d : LatencyCount) → j < length ps → k ≤ (get_or ps j d).latency
above_least k [] is j d h = absurd (omega (arith, h))
above_least k (p ∷ ps) is zero d h = is.0
above_least k (p ∷ ps) is (suc j) d h = let rest = above_least (p.latency + 1) ps is.2 j d (omega (arith, h)) in omega (arith, rest, is.0)

pub non_decreasing : (k : ℕ) (ps : List LatencyCount) → AreByLatency k ps → IsNonDecreasingBy (λ (p : LatencyCount). p.latency) ps
non_decreasing k [] is i j d le h = absurd (omega (arith, h))
non_decreasing k (p ∷ ps) is zero zero d le h = omega arith
non_decreasing k (p ∷ ps) is zero (suc j) d le h = let rest = above_least (p.latency + 1) ps is.2 j d (omega (arith, h)) in omega (arith, rest)
non_decreasing k (p ∷ ps) is (suc i) zero d le h = absurd (omega (arith, le))
non_decreasing k (p ∷ ps) is (suc i) (suc j) d le h = non_decreasing (p.latency + 1) ps is.2 i j d (omega (arith, le)) (omega (arith, h))

none_below : (k l : ℕ) (ps : List LatencyCount) → AreByLatency k ps → l < k → count_of ps l ≡ 0
none_below k l [] is h = refl
none_below k l (p ∷ ps) is h = rw (above_test p.latency l (omega (arith, h, is.0)), count_of) (none_below (p.latency + 1) l ps is.2 (omega (arith, h, is.0)))

pub count_at : (k : ℕ) (ps : List LatencyCount) → AreByLatency k ps → (j : ℕ) (d : LatencyCount) → j < length ps → count_of ps (get_or ps j d).latency ≡ (get_or ps j d).answered
count_at k [] is j d h = absurd (omega (arith, h))
count_at k (p ∷ ps) is zero d h = rw (same_test p.latency, count_of) refl
count_at k (p ∷ ps) is (suc j) d h =
    let more = above_least (p.latency + 1) ps is.2 j d (omega (arith, h)) in
    rw (below_test p.latency (get_or ps j d).latency (omega (arith, more)), count_of) (count_at (p.latency + 1) ps is.2 j d (omega (arith, h)))

-- ---- a latency is counted
abbrev pub IsCounted : ℕ → ℕ → List LatencyCount → List LatencyCount → Type 0
IsCounted k l old new = AreByLatency k new × ((m : ℕ) → count_of new m ≡ count_of old m + weight (l == m))

abbrev pub with_one_more : LatencyCount → LatencyCount
with_one_more p = record { latency = p.latency; answered = p.answered + 1 }

pub counted_again : (k : ℕ) (ps : List LatencyCount) → AreByLatency k ps → (j : ℕ) (d : LatencyCount) → j < length ps → IsCounted k (get_or ps j d).latency ps (slice_set ps j (with_one_more (get_or ps j d)))
counted_again k [] is j d h = absurd (omega (arith, h))
counted_again k (p ∷ ps) is zero d h = ((is.0, omega arith, is.2), λ m. one_more (p.latency == m) p.answered (count_of ps m))
counted_again k (p ∷ ps) is (suc j) d h =
    let here : j < length ps = omega (arith, h) in
    let rest = counted_again (p.latency + 1) ps is.2 j d here in
    let more = above_least (p.latency + 1) ps is.2 j d here in
    let l = (get_or ps j d).latency in
    ((is.0, is.1, rest.0), λ m. behind_first (p.latency == m) p.answered (count_of ps m) _ (weight (l == m)) (λ b. ap weight (above_test l m (omega (arith, is_same p.latency m b, more)))) (rest.1 m))

-- what is at a place doesn't depend on the default
pub same_at : (ps : List LatencyCount) (j : ℕ) (d e : LatencyCount) → j < length ps → get_or ps j d ≡ get_or ps j e
same_at [] j d e h = absurd (omega (arith, h))
same_at (p ∷ ps) zero d e h = refl
same_at (p ∷ ps) (suc j) d e h = same_at ps j d e (omega (arith, h))

module _ (ps : List LatencyCount) (are : AreByLatency 0 ps) (j : ℕ) (q : LatencyCount) (here : j < length ps) (is : q ≡ get_or ps j q) where
  pub count_is : count_of ps q.latency ≡ q.answered
  count_is = subst (λ (p : LatencyCount). count_of ps p.latency ≡ p.answered) (sym is) (count_at 0 ps are j q here)

  pub counted_there : (l : ℕ) → q.latency ≡ l → IsCounted 0 l ps (slice_set ps j (with_one_more q))
  counted_there l same =
      let again = subst (λ (p : LatencyCount). IsCounted 0 p.latency ps (slice_set ps j (with_one_more p))) (sym is) (counted_again 0 ps are j q here) in
      subst (λ m. IsCounted 0 m ps (slice_set ps j (with_one_more q))) same again

abbrev pub first_of : ℕ → LatencyCount
first_of l = record { latency = l; answered = 1 }

pub counted_first : (k : ℕ) (ps : List LatencyCount) → AreByLatency k ps → (i l : ℕ) (d : LatencyCount) → k ≤ l → i ≤ length ps → ((j : ℕ) → j < i → (get_or ps j d).latency < l) → (i < length ps → l < (get_or ps i d).latency) → IsCounted k l ps (insert ps i (first_of l))
counted_first k [] is zero l d low h less more = ((low, omega arith, tt), λ m. new_first (l == m) 0 (λ b. refl))
counted_first k (p ∷ ps) is zero l d low h less more =
    let order = more (omega arith) in
    let now : AreByLatency (l + 1) (p ∷ ps) = (omega (arith, order), is.1, is.2) in
    ((low, omega arith, now), λ m. new_first (l == m) (count_of (p ∷ ps) m) (λ b. none_below (l + 1) m (p ∷ ps) now (omega (arith, is_same l m b))))
counted_first k [] is (suc i) l d low h less more = absurd (omega (arith, h))
counted_first k (p ∷ ps) is (suc i) l d low h less more =
    let order = less 0 (omega arith) in
    let rest = counted_first (p.latency + 1) ps is.2 i l d (omega (arith, order)) (omega (arith, h)) (λ j b. less (suc j) (omega (arith, b))) (λ b. more (omega (arith, b))) in
    ((is.0, is.1, rest.0), λ m. behind_first (p.latency == m) p.answered (count_of ps m) _ (weight (l == m)) (λ b. ap weight (above_test l m (omega (arith, is_same p.latency m b, order)))) (rest.1 m))

-- ---- the text
pub none_beyond : (to l : ℕ) (xs : List ℕ) → AllByRecursion (λ x. x < to) xs → to ≤ l → answered_in xs l ≡ 0
none_beyond to l [] all h = refl
none_beyond to l (x ∷ xs) all h =
    let off = ap weight (below_test x l (omega (arith, all.0, h))) in
    omega (arith, off, none_beyond to l xs all.1 h)

row_of : (l n : ℕ) → 0 < n → latency_row l n ≡ count_row record { latency = l; answered = n }
row_of l zero h = absurd (omega (arith, h))
row_of l (suc n) h = refl

-- f has the counts from latency k on
module _ (f : ℕ → ℕ) where
  abbrev row : ℕ → List ℕ
  row l = latency_row l (f l)

  no_row : (l : ℕ) → f l ≡ 0 → row l ≡ []
  no_row l none = ap (latency_row l) none

  pub rows_are : (n k : ℕ) (ps : List LatencyCount) → AreByLatency k ps → ((l : ℕ) → k ≤ l → f l ≡ count_of ps l) → ((l : ℕ) → k + n ≤ l → f l ≡ 0) → flat_map row (range_with_len k n) ≡ flat_map count_row ps
  rows_are zero k [] is same none = refl
  rows_are zero k (p ∷ ps) is same none =
      let here = count_at k (p ∷ ps) is 0 p (omega arith) in
      absurd (omega (arith, here, same p.latency is.0, none p.latency (omega (arith, is.0)), is.1))
  rows_are (suc n) k [] is same none =
      let rest = rows_are n (k + 1) [] tt (λ l h. same l (omega (arith, h))) (λ l h. none l (omega (arith, h))) in
      rw (no_row k (same k (omega arith))) rest
  rows_are (suc n) k (p ∷ ps) is same none = elim (eqb_tells p.latency k) [
    | inl e ↦
        let here : row k ≡ count_row p = ap (latency_row k) (same k (omega arith) ∙ ap (count_of (p ∷ ps)) (sym e.1) ∙ count_at k (p ∷ ps) is 0 p (omega arith)) ∙ row_of k p.answered is.1 ∙ ap (λ l. count_row record { latency = l; answered = p.answered }) (sym e.1) in
        let later : (l : ℕ) → k + 1 ≤ l → f l ≡ count_of ps l = λ l h. same l (omega (arith, h)) ∙ ap (λ b. elim b [ true ↦ p.answered | false ↦ count_of ps l ]) (below_test p.latency l (omega (arith, e.1, h))) in
        let rest = rows_are n (k + 1) ps (rw e.1 at is.2) later (λ l h. none l (omega (arith, h))) in
        rw (here, rest) refl
    | inr e ↦
        let now : AreByLatency (k + 1) (p ∷ ps) = (omega (arith, is.0, e.1), is.1, is.2) in
        let rest = rows_are n (k + 1) (p ∷ ps) now (λ l h. same l (omega (arith, h))) (λ l h. none l (omega (arith, h))) in
        rw (no_row k (same k (omega arith) ∙ none_below (k + 1) k (p ∷ ps) now (omega arith))) rest
  ]
