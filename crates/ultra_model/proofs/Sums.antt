-- sums over all places below a bound
use Rattle.std.proofs.Common.{◌≡◌, ◌≢◌, ℕ, zero, suc, ◌+◌, ◌*◌, ◌/◌, ◌%◌, ◌^◌, ◌-◌, ◌<◌, ◌≤◌, refl, arith, ap, ◌∙◌, sym, ⊎_elim}
use Rattle.std.proofs.lemmas.Bool.{cases_lt}
use Rattle.ultra_route.specs.Route.{shuffled, unshuffled}
use Rattle.ultra_route.proofs.Table.{back, sizes}
use Rattle.ultra_model.specs.Balance.{total}

-- ---- steps
pub total_none : (f : ℕ → ℕ) → total 0 f ≡ 0
unfolding total
total_none f = refl

pub total_next : (n : ℕ) (f : ℕ → ℕ) → total (suc n) f ≡ total n f + f n
unfolding total
total_next n f = refl

pub total_front : (n : ℕ) (f : ℕ → ℕ) → total (suc n) f ≡ f 0 + total n (λ k. f (k + 1))
total_front zero f = omega (arith, total_next 0 f, total_none f, total_none (λ k. f (k + 1)))
total_front (suc n) f =
    let same : f (suc n) ≡ f (n + 1) = ap f (omega arith) in
    omega (arith, total_next (suc n) f, total_front n f, total_next n (λ k. f (k + 1)))

-- ---- equal, added and bounded terms
pub total_same : (n : ℕ) (f g : ℕ → ℕ) → ((k : ℕ) → k < n → f k ≡ g k) → total n f ≡ total n g
total_same zero f g h = total_none f ∙ sym (total_none g)
total_same (suc n) f g h =
    let last : f n ≡ g n = h n (omega arith) in
    let rest = total_same n f g (λ k l. h k (omega arith)) in
    omega (arith, total_next n f, total_next n g)

pub total_plus : (n : ℕ) (f g : ℕ → ℕ) → total n (λ k. f k + g k) ≡ total n f + total n g
total_plus zero f g = omega (arith, total_none (λ k. f k + g k), total_none f, total_none g)
total_plus (suc n) f g = omega (arith, total_next n (λ k. f k + g k), total_next n f, total_next n g, total_plus n f g)

pub total_zero : (n : ℕ) (f : ℕ → ℕ) → ((k : ℕ) → k < n → f k ≡ 0) → total n f ≡ 0
total_zero zero f h = total_none f
total_zero (suc n) f h =
    let last : f n ≡ 0 = h n (omega arith) in
    let rest = total_zero n f (λ k l. h k (omega arith)) in
    omega (arith, total_next n f)

-- each term is at most the sum
pub total_term : (n : ℕ) (f : ℕ → ℕ) (k : ℕ) → k < n → f k ≤ total n f
total_term zero f k h = absurd (omega (arith, h))
total_term (suc n) f k h =
    ⊎_elim (λ l. let rest = total_term n f k l in omega (arith, total_next n f))
    (λ l. let same : f k ≡ f n = ap f (omega (arith, h, l)) in omega (arith, total_next n f)) (cases_lt k n)

-- where the other terms are 0, the sum is the one
pub total_only : (n : ℕ) (f : ℕ → ℕ) (k : ℕ) → k < n → ((j : ℕ) → j < n → j ≢ k → f j ≡ 0) → total n f ≡ f k
total_only zero f k h others = absurd (omega (arith, h))
total_only (suc n) f k h others =
    ⊎_elim (λ l.
    let rest = total_only n f k l (λ j a b. others j (omega arith) b) in
    let last : f n ≡ 0 = others n (omega arith) (omega arith) in
    omega (arith, total_next n f))
    (λ l.
    let same : k ≡ n = omega (arith, h, l) in
    let here : f k ≡ f n = ap f same in
    let rest : total n f ≡ 0 = total_zero n f (λ j a. others j (omega arith) (omega arith)) in
    omega (arith, total_next n f)) (cases_lt k n)

-- ---- by pairs of places, and in halves
pub total_pairs : (n m : ℕ) (f : ℕ → ℕ) → m ≡ 2 * n → total m f ≡ total n (λ k. f (2 * k) + f (2 * k + 1))
total_pairs zero zero f e = omega (arith, total_none f, total_none (λ k. f (2 * k) + f (2 * k + 1)))
total_pairs zero (suc m) f e = absurd (omega (arith, e))
total_pairs (suc n) zero f e = absurd (omega (arith, e))
total_pairs (suc n) (suc zero) f e = absurd (omega (arith, e))
total_pairs (suc n) (suc (suc m)) f e =
    let even : m ≡ 2 * n = omega (arith, e) in
    let first : f m ≡ f (2 * n) = ap f even in
    let second : f (suc m) ≡ f (2 * n + 1) = ap f (omega (arith, even)) in
    let rest = total_pairs n m f even in
    omega (arith, total_next (suc m) f, total_next m f, total_next n (λ k. f (2 * k) + f (2 * k + 1)))

pub total_halves : (a b m : ℕ) (f : ℕ → ℕ) → m ≡ a + b → total m f ≡ total a f + total b (λ k. f (a + k))
total_halves a zero m f e =
    let same : m ≡ a = omega (arith, e) in
    let here : total m f ≡ total a f = ap (λ n. total n f) same in
    omega (arith, total_none (λ k. f (a + k)))
total_halves a (suc b) zero f e = absurd (omega (arith, e))
total_halves a (suc b) (suc m) f e =
    let less : m ≡ a + b = omega (arith, e) in
    let last : f m ≡ f (a + b) = ap f less in
    let rest = total_halves a b m f less in
    omega (arith, total_next m f, total_next b (λ k. f (a + k)))

-- ---- the shuffle only changes the order
even_line : (k w : ℕ) → 2 * k / 2 + 2 * k % 2 * w ≡ k
even_line k w =
    let z : 2 * k % 2 ≡ 0 = omega arith in
    rw z (omega arith)

odd_line : (k w : ℕ) → (2 * k + 1) / 2 + (2 * k + 1) % 2 * w ≡ w + k
odd_line k w =
    let z : (2 * k + 1) % 2 ≡ 1 = omega arith in
    rw z (omega arith)

module _ (d : ℕ) (low : 1 ≤ d) (high : d ≤ 6) where
  pub total_unshuffled : (f : ℕ → ℕ) → total (2 ^ d) (λ y. f (unshuffled d y)) ≡ total (2 ^ d) f
  total_unshuffled f =
      let w = 2 ^ (d - 1) in
      let twice : 2 ^ d ≡ 2 * w = sym (sizes d low high).0 in
      let double : 2 ^ d ≡ w + w = omega arith in
      let pairs = total_pairs w (2 ^ d) (λ y. f (unshuffled d y)) twice in
      let halves = total_halves w w (2 ^ d) f double in
      let each : total w (λ k. f (unshuffled d (2 * k)) + f (unshuffled d (2 * k + 1))) ≡ total w (λ k. f k + f (w + k)) =
      total_same w _ _ (λ k l. rw (even_line k w, odd_line k w) refl) in
      let sum = total_plus w f (λ k. f (w + k)) in
      pairs ∙ (each ∙ (sum ∙ sym halves))

  pub total_shuffled : (f : ℕ → ℕ) → total (2 ^ d) (λ x. f (shuffled d x)) ≡ total (2 ^ d) f
  total_shuffled f =
      let there = total_unshuffled (λ x. f (shuffled d x)) in
      let same : total (2 ^ d) (λ y. f (shuffled d (unshuffled d y))) ≡ total (2 ^ d) f = total_same (2 ^ d) _ _ (λ y l. ap f (back d y low high l).forth) in
      sym there ∙ same

-- ---- sums over a table
pub table_same : (m n : ℕ) (f g : ℕ → ℕ → ℕ) → ((s x : ℕ) → s < m → x < n → f s x ≡ g s x) → total m (λ s. total n (λ x. f s x)) ≡ total m (λ s. total n (λ x. g s x))
table_same m n f g h = total_same m _ _ (λ s hs. total_same n _ _ (λ x hx. h s x hs hx))

pub table_plus : (m n : ℕ) (f g : ℕ → ℕ → ℕ) → total m (λ s. total n (λ x. f s x + g s x)) ≡ total m (λ s. total n (λ x. f s x)) + total m (λ s. total n (λ x. g s x))
table_plus m n f g = total_same m _ _ (λ s hs. total_plus n (λ x. f s x) (λ x. g s x)) ∙ total_plus m (λ s. total n (λ x. f s x)) (λ s. total n (λ x. g s x))

pub table_term : (m n : ℕ) (f : ℕ → ℕ → ℕ) (s x : ℕ) → s < m → x < n → f s x ≤ total m (λ s. total n (λ x. f s x))
table_term m n f s x hs hx =
    let row = total_term n (λ x. f s x) x hx in
    let all = total_term m (λ s. total n (λ x. f s x)) s hs in
    omega (arith, row, all)
