-- the sum of numbers of which one becomes another
use Rattle.std.proofs.Common.{ℕ, zero, suc, ◌≡◌, ◌≢◌, ◌+◌, ◌-◌, ◌*◌, ◌/◌, ◌%◌, ◌<◌, ◌≤◌, List, length, get_or, set, get_or-set_same, get_or-set_other, ap, ◌∙◌, ⊎_elim, inl, inr, arith}
use Rattle.std.proofs.lemmas.Bool.{cases_eq, cases_lt}
use Rattle.ultra_model.specs.Balance.{total}
use Rattle.ultra_measure.specs.ElementStates.{three_in_one}
use Rattle.ultra_model.proofs.Sums.{total_none, total_next, total_same}

pub total_set : (n : ℕ) (xs : List ℕ) (k v : ℕ) → k < n → k < length xs → total n (λ j. get_or (set xs k v) j 0) + get_or xs k 0 ≡ total n (λ j. get_or xs j 0) + v
total_set zero xs k v h long = absurd (omega (arith, h))
total_set (suc n) xs k v h long =
    let new : ℕ → ℕ = λ j. get_or (set xs k v) j 0 in
    let old : ℕ → ℕ = λ j. get_or xs j 0 in
    ⊎_elim (λ l.
    let rest = total_set n xs k v l long in
    let other : n ≢ k = omega (arith, l) in
    let last : new n ≡ old n = get_or-set_other xs k n v 0 other in
    omega (arith, rest, last, total_next n new, total_next n old))
    (λ l.
    let same : n ≡ k = omega (arith, h, l) in
    let rest : total n new ≡ total n old = total_same n new old (λ j below. get_or-set_other xs k j v 0 (omega (arith, same))) in
    let last : new n ≡ v = ap new same ∙ get_or-set_same xs k v 0 long in
    let before : old n ≡ old k = ap old same in
    omega (arith, rest, last, before, total_next n new, total_next n old)) (cases_lt k n)

pub total_small : (n b : ℕ) (f : ℕ → ℕ) → ((k : ℕ) → k < n → f k ≤ b) → total n f ≤ n * b
total_small zero b f small = omega (arith, total_none f)
total_small (suc n) b f small =
    let rest = total_small n b f (λ k h. small k (omega arith)) in
    let last = small n (omega arith) in
    omega (arith, rest, last, total_next n f)

-- where the numbers from n on are 0
beyond_zero : (n d : ℕ) (f : ℕ → ℕ) → ((k : ℕ) → n ≤ k → f k ≡ 0) → total (n + d) f ≡ total n f
beyond_zero n zero f zeros = ap (λ k. total k f) (omega arith)
beyond_zero n (suc d) f zeros =
    let longer : n + suc d ≡ suc (n + d) = omega arith in
    let last = zeros (n + d) (omega arith) in
    ap (λ k. total k f) longer ∙ omega (arith, total_next (n + d) f, beyond_zero n d f zeros, last)

pub total_beyond : (n m : ℕ) (f g : ℕ → ℕ) → n ≤ m → ((k : ℕ) → k < n → f k ≡ g k) → ((k : ℕ) → n ≤ k → f k ≡ 0) → total m f ≡ total n g
total_beyond n m f g le same zeros = ap (λ k. total k f) (omega (arith, le)) ∙ beyond_zero n (m - n) f zeros ∙ total_same n f g same

pub small_set : (xs : List ℕ) (k v b : ℕ) → k < length xs → v ≤ b → ((j : ℕ) → j < 64 → get_or xs j 0 ≤ b) → (j : ℕ) → j < 64 → get_or (set xs k v) j 0 ≤ b
small_set xs k v b here fits small j h = elim (cases_eq j k) [
  | inl same ↦ let is : get_or (set xs k v) j 0 ≡ v = rw same (get_or-set_same xs k v 0 here) in omega (arith, is, fits)
  | inr other ↦ let is = get_or-set_other xs k j v 0 other in omega (arith, is, small j h)
]

-- ---- three numbers in one
pub total_three : (n : ℕ) (f g h : ℕ → ℕ) → total n (λ k. three_in_one (f k) (g k) (h k)) ≡ three_in_one (total n f) (total n g) (total n h)
total_three zero f g h = omega (arith, total_none f, total_none g, total_none h, total_none (λ k. three_in_one (f k) (g k) (h k)))
total_three (suc n) f g h = omega (arith, total_three n f g h, total_next n f, total_next n g, total_next n h, total_next n (λ k. three_in_one (f k) (g k) (h k)))

pub three_are : (n a b c : ℕ) → n ≡ three_in_one a b c → a < 256 → b < 256 → (n % 256 ≡ a) × (n / 256 % 256 ≡ b) × (n / 65536 ≡ c)
three_are n a b c is low middle =
    let first : n / 256 ≡ b + c * 256 = omega (arith, is, low) in
    (omega (arith, is, low), omega (arith, first, middle), omega (arith, is, low, middle))
