-- the numbers of results, counted
use Rattle.std.proofs.Common.{◌≡◌, ℕ, zero, suc, ◌+◌, ◌<◌, ◌≤◌, List, [], ◌∷◌, ◌++◌, Bool, true, false, length, refl, sym, ap, subst, ◌∙◌, arith, eq-eqb}
use Rattle.std.proofs.lemmas.{Bool.{eqb-true, Decides.nat_tests}, List.{map-append, length-map}}
use Rattle.std.specs.Prelude.{◌==◌, Contains}
use Rattle.ultra_board.specs.View.{one_if, times, times_below}
use Rattle.ultra_board.proofs.Times.{times-append, times-push, length-within, times-not_contained}
use Rattle.ultra_sweep.specs.{declared.job.JobResult.JobResult, Job.job_numbers}

-- a number is itself, and no other
pub one_if-same : (i : ℕ) → one_if (i == i) ≡ 1
one_if-same i = ap one_if (eq-eqb i i refl)

pub one_if-case : (k i : ℕ) → (k ≡ i → one_if (k == i) ≡ 1) × ((k ≡ i → ⊥) → one_if (k == i) ≡ 0)
one_if-case k i = by_case (k == i) refl
  where
    by_case : (b : Bool) → (k == i) ≡ b → (k ≡ i → one_if (k == i) ≡ 1) × ((k ≡ i → ⊥) → one_if (k == i) ≡ 0)
    by_case true e = ((λ same. ap one_if e), (λ other. absurd (other (eqb-true k i e))))
    by_case false e = ((λ same. ap one_if (eq-eqb k i same)), (λ other. ap one_if e))

pub times_below-in : (i n : ℕ) → i < n → times_below i n ≡ 1
times_below-in i n lt = grind (arith, nat_tests)

pub times_below-out : (i n : ℕ) → n ≤ i → times_below i n ≡ 0
times_below-out i n le = grind (arith, nat_tests)

-- all numbers below n
first_numbers : ℕ → List ℕ
first_numbers zero = []
first_numbers (suc n) = first_numbers n ++ n ∷ []

times_below-suc : (i n : ℕ) → times_below i n + one_if (n == i) ≡ times_below i (suc n)
times_below-suc i n = grind (arith, nat_tests)

times-first_numbers : (i n : ℕ) → times i (first_numbers n) ≡ times_below i n
unfolding first_numbers
times-first_numbers i zero = sym (times_below-out i 0 (omega arith))
times-first_numbers i (suc n) =
    let push = times-push i n (first_numbers n) in
    let before = times-first_numbers i n in
    let more = times_below-suc i n in
    omega arith

length-push : (xs : List ℕ) (x : ℕ) → length (xs ++ x ∷ []) ≡ length xs + 1
length-push [] x = refl
length-push (y ∷ ys) x = let rest = length-push ys x in omega arith

length-first_numbers : (n : ℕ) → length (first_numbers n) ≡ n
unfolding first_numbers
length-first_numbers zero = refl
length-first_numbers (suc n) = let before = length-first_numbers n in let more = length-push (first_numbers n) n in omega arith

-- different numbers below n are at most n
pub length-below : (n : ℕ) (xs : List ℕ) → ((i : ℕ) → times i xs ≤ times_below i n) → length xs ≤ n
length-below n xs within =
    let most = length-within xs (first_numbers n) (λ i. let w = within i in let t = times-first_numbers i n in omega arith) in
    let long = length-first_numbers n in
    omega arith

pub length-job_numbers : (rs : List JobResult) → length (job_numbers rs) ≡ length rs
length-job_numbers rs = length-map rs (λ (q : JobResult). q.number)

-- the numbers of one result more
pub job_numbers-push : (rs : List JobResult) (r : JobResult) → job_numbers (rs ++ r ∷ []) ≡ job_numbers rs ++ r.number ∷ []
job_numbers-push rs r = map-append (λ (q : JobResult). q.number) rs (r ∷ [])

pub times-numbers_push : (i : ℕ) (rs : List JobResult) (r : JobResult) → times i (job_numbers (rs ++ r ∷ [])) ≡ times i (job_numbers rs) + one_if (r.number == i)
times-numbers_push i rs r = ap (times i) (job_numbers-push rs r) ∙ times-push i r.number (job_numbers rs)

-- one number more that is new
pub one_more : (n : ℕ) (xs : List ℕ) (k : ℕ) → ((i : ℕ) → times i xs ≤ times_below i n) → k < n → times k xs ≡ 0 → (i : ℕ) → times i (xs ++ k ∷ []) ≤ times_below i n
one_more n xs k within below new i = by_case (k == i) refl (times-push i k xs) (within i)
  where
    by_case : (b : Bool) → (k == i) ≡ b → times i (xs ++ k ∷ []) ≡ times i xs + one_if (k == i) → times i xs ≤ times_below i n → times i (xs ++ k ∷ []) ≤ times_below i n
    by_case true e push before =
        let same : k ≡ i = eqb-true k i e in
        let none : times i xs ≡ 0 = rw same at new in
        let one : one_if (k == i) ≡ 1 = ap one_if e in
        let room : times_below i n ≡ 1 = times_below-in i n (rw same at below) in
        omega arith
    by_case false e push before = let one : one_if (k == i) ≡ 0 = ap one_if e in omega arith

-- one result more that names a new job
pub within-push : (n : ℕ) (rs : List JobResult) (r : JobResult) → ((i : ℕ) → times i (job_numbers rs) ≤ times_below i n) → r.number < n → times r.number (job_numbers rs) ≡ 0
    → (i : ℕ) → times i (job_numbers (rs ++ r ∷ [])) ≤ times_below i n
within-push n rs r within below new i = subst (λ xs. times i xs ≤ times_below i n) (sym (job_numbers-push rs r)) (one_more n (job_numbers rs) r.number within below new i)

-- a number that isn't in two lists isn't in the second
pub not_in_second : (i : ℕ) (xs ys : List ℕ) → ¬ Contains (xs ++ ys) i → times i ys ≡ 0
not_in_second i xs ys absent = let none = times-not_contained i (xs ++ ys) absent in let both = times-append i xs ys in omega arith

-- where a number below n is new, there is room for one result more
pub room : (n : ℕ) (rs : List JobResult) (k : ℕ) → ((i : ℕ) → times i (job_numbers rs) ≤ times_below i n) → k < n → times k (job_numbers rs) ≡ 0 → length rs < n
room n rs k within below new =
    let most = length-below n (job_numbers rs ++ k ∷ []) (one_more n (job_numbers rs) k within below new) in
    let long = length-push (job_numbers rs) k in
    let same = length-job_numbers rs in
    omega arith

-- a result that is among others is counted
pub times-middle : (i : ℕ) (before rest : List JobResult) (r : JobResult) → times i (job_numbers (before ++ r ∷ rest)) ≡ times i (job_numbers before) + (one_if (r.number == i) + times i (job_numbers rest))
times-middle i before rest r =
    ap (times i) (map-append (λ (q : JobResult). q.number) before (r ∷ rest)) ∙ times-append i (job_numbers before) (r.number ∷ job_numbers rest)
