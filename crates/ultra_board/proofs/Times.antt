-- how often numbers occur in lists
use Rattle.std.proofs.Common.{◌≡◌, ℕ, zero, suc, ◌+◌, ◌<◌, ◌≤◌, List, [], ◌∷◌, ◌++◌, Bool, true, false, length, refl, ap, arith, min, eq-eqb}
use Rattle.std.proofs.lemmas.Bool.{eqb-true, Decides.nat_tests}
use Rattle.std.specs.Prelude.{nat_lt, ◌==◌, Contains, slice_index_or}
use native.Mathlib.Decide.{dec_le}
use Rattle.ultra_board.specs.View.{one_if, times, times_below}

one_if-refl : (i : ℕ) → one_if (i == i) ≡ 1
one_if-refl i = ap one_if (eq-eqb i i refl)

pub times-append : (i : ℕ) (xs ys : List ℕ) → times i (xs ++ ys) ≡ times i xs + times i ys
times-append i [] ys = omega arith
times-append i (x ∷ xs) ys = let rest = times-append i xs ys in omega arith

pub times-push : (i n : ℕ) (xs : List ℕ) → times i (xs ++ n ∷ []) ≡ times i xs + one_if (n == i)
times-push i n xs = let t = times-append i xs (n ∷ []) in omega arith

-- the numbers below n + 1 are those below n, and n
pub times_below-more : (i n limit : ℕ) → n < limit → times_below i (min (n + 1) limit) ≡ times_below i (min n limit) + one_if (n == i)
times_below-more i n limit lt =
    let next : min (n + 1) limit ≡ n + 1 = omega arith in
    let this : min n limit ≡ n = omega arith in
    rw (next, this) (grind (arith, nat_tests))

one_if-le : (b : Bool) → one_if b ≤ 1
one_if-le true = omega arith
one_if-le false = omega arith

pub times_below-le : (i n : ℕ) → times_below i n ≤ 1
times_below-le i n = one_if-le (nat_lt i n)

-- n isn't below n
pub times_below-itself : (n : ℕ) → times_below n n ≡ 0
times_below-itself n = grind (arith, nat_tests)

-- a number that a list contains occurs in it, and one that occurs in it is contained
pub times-contained : (i : ℕ) (xs : List ℕ) → Contains xs i → 0 < times i xs
times-contained i xs h = at_place i xs h.0 h.1 h.2
  where
    at_place : (i : ℕ) (xs : List ℕ) (k : ℕ) → k < length xs → slice_index_or xs k i ≡ i → 0 < times i xs
    at_place i [] k lt e = absurd (omega arith)
    at_place i (x ∷ xs) zero lt e = let o : one_if (x == i) ≡ 1 = ap one_if (eq-eqb x i e) in omega arith
    at_place i (x ∷ xs) (suc k) lt e = let rest = at_place i xs k (omega arith) e in omega arith

pub contained-times : (i : ℕ) (xs : List ℕ) → 0 < times i xs → Contains xs i
contained-times i [] h = absurd (omega arith)
contained-times i (x ∷ xs) h = by_case i x xs (x == i) refl h (contained-times i xs)
  where
    by_case : (i x : ℕ) (xs : List ℕ) (b : Bool) → (x == i) ≡ b → 0 < one_if b + times i xs → (0 < times i xs → Contains xs i) → Contains (x ∷ xs) i
    by_case i x xs true e h rest = (0, omega arith, eqb-true x i e)
    by_case i x xs false e h rest = let there = rest (omega arith) in (suc there.0, (let lt = there.1 in omega arith), there.2)

pub times-not_contained : (i : ℕ) (xs : List ℕ) → ¬ Contains xs i → times i xs ≡ 0
times-not_contained i xs absent = elim (dec_le 1 (times i xs)) [ yes le ↦ absurd (absent (contained-times i xs (omega arith))) | no le ↦ omega arith ]

pub not_contained-times : (i : ℕ) (xs : List ℕ) → times i xs ≡ 0 → ¬ Contains xs i
not_contained-times i xs none there = let some = times-contained i xs there in omega arith

-- a list without the first of a number
without : ℕ → List ℕ → List ℕ
without i [] = []
without i (y ∷ ys) = elim (y == i) [ true ↦ ys | false ↦ y ∷ without i ys ]

without_case : (i k y : ℕ) (ys : List ℕ) (b : Bool) → (y == i) ≡ b → 0 < one_if b + times i ys → (0 < times i ys → times k (without i ys) + one_if (i == k) ≡ times k ys)
    → times k (elim b [ true ↦ ys | false ↦ y ∷ without i ys ]) + one_if (i == k) ≡ one_if (y == k) + times k ys
without_case i k y ys true e h rest = let same : y ≡ i = eqb-true y i e in rw same (omega arith)
without_case i k y ys false e h rest = let r = rest (omega arith) in omega arith

times-without : (i k : ℕ) (ys : List ℕ) → 0 < times i ys → times k (without i ys) + one_if (i == k) ≡ times k ys
unfolding without
times-without i k [] h = absurd (omega arith)
times-without i k (y ∷ ys) h = without_case i k y ys (y == i) refl h (times-without i k ys)

length_case : (i y : ℕ) (ys : List ℕ) (b : Bool) → 0 < one_if b + times i ys → (0 < times i ys → length (without i ys) + 1 ≡ length ys)
    → length {A = ℕ} (elim b [ true ↦ ys | false ↦ y ∷ without i ys ]) + 1 ≡ length ys + 1
length_case i y ys true h rest = refl
length_case i y ys false h rest = let r = rest (omega arith) in omega arith

length-without : (i : ℕ) (ys : List ℕ) → 0 < times i ys → length (without i ys) + 1 ≡ length ys
unfolding without
length-without i [] h = absurd (omega arith)
length-without i (y ∷ ys) h = let c = length_case i y ys (y == i) h (length-without i ys) in omega arith

-- a list is no longer than another one in which each of its numbers occurs at least as often
pub length-within : (xs ys : List ℕ) → ((i : ℕ) → times i xs ≤ times i ys) → length xs ≤ length ys
length-within [] ys h = omega arith
length-within (x ∷ xs) ys h =
    let here = h x in
    let one = one_if-refl x in
    let there : 0 < times x ys = omega arith in
    let shorter = length-without x ys there in
    let rest = length-within xs (without x ys) (λ i. let a = h i in let b = times-without x i ys there in omega arith) in
    omega arith

-- a list within an empty one is empty
pub length-within_none : (xs ys : List ℕ) → ys ≡ [] → ((i : ℕ) → times i xs ≤ times i ys) → length xs ≡ 0
length-within_none xs ys none h = let le = length-within xs ys h in let zero_long = ap length none in omega arith

-- one more of a number fits where there is room for it
pub one_more_within : (k i : ℕ) (xs ys : List ℕ) → times k xs ≤ times k ys → times i xs < times i ys → times k (xs ++ i ∷ []) ≤ times k ys
one_more_within k i xs ys le room = let push = times-push k i xs in by_case (i == k) refl push
  where
    by_case : (b : Bool) → (i == k) ≡ b → times k (xs ++ i ∷ []) ≡ times k xs + one_if (i == k) → times k (xs ++ i ∷ []) ≤ times k ys
    by_case true e push = let same : i ≡ k = eqb-true i k e in let room' = rw same at room in let one : one_if (i == k) ≡ 1 = ap one_if e in omega arith
    by_case false e push = let one : one_if (i == k) ≡ 0 = ap one_if e in omega arith
