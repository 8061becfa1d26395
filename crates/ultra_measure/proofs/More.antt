-- a sum and a most of one number more, and of a window of one cycle more
use Rattle.std.proofs.Common.{ℕ, zero, suc, List, ◌≡◌, ◌+◌, ◌-◌, ◌≤◌, ◌<◌, max, refl, ap, ◌∙◌, add-one, arith}
use Rattle.ultra_isa.specs.declared.Instr.{Instr}
use Rattle.ultra_model.specs.{Machine.{Settings, Machine}, Phases.after, Balance.total}
use Rattle.ultra_measure.specs.Window.{greatest, sum_of, most_of}

pub no_total : (f : ℕ → ℕ) → total 0 f ≡ 0
unfolding total
no_total f = refl

pub no_greatest : (f : ℕ → ℕ) → greatest 0 f ≡ 0
unfolding greatest
no_greatest f = refl

pub total_more : (n : ℕ) (f : ℕ → ℕ) → total (n + 1) f ≡ total n f + f n
unfolding total
total_more n f = rw add-one refl

pub greatest_more : (n : ℕ) (f : ℕ → ℕ) → greatest (n + 1) f ≡ max (greatest n f) (f n)
unfolding greatest
greatest_more n f = rw add-one refl

pub total_goes_on : (n : ℕ) (f : ℕ → ℕ) {a v : ℕ} → a ≡ total n f → v ≡ f n → a + v ≡ total (n + 1) f
total_goes_on n f a v = omega (arith, a, v, total_more n f)

pub greatest_goes_on : (n : ℕ) (f : ℕ → ℕ) {a v b : ℕ} → a ≡ greatest n f → v ≡ f n → b ≡ max a v → b ≡ greatest (n + 1) f
greatest_goes_on n f a v b = omega (arith, a, v, b, greatest_more n f)

-- ---- windows
module _ (c : Settings) (program : List Instr) (from to : ℕ) (order : from ≤ to) where
  same_cycle : (f : Machine → ℕ) → f (after c program (from + (to - from) + 1)) ≡ f (after c program (to + 1))
  same_cycle f = ap (λ n. f (after c program n)) (omega arith)

  one_longer : to + 1 - from ≡ to - from + 1
  one_longer = omega arith

  pub sum_more : (f : Machine → ℕ) → sum_of c program from (to + 1) f ≡ sum_of c program from to f + f (after c program (to + 1))
  sum_more f =
      ap (λ n. total n (λ k. f (after c program (from + k + 1)))) one_longer
      ∙ total_more (to - from) (λ k. f (after c program (from + k + 1)))
      ∙ ap (λ x. sum_of c program from to f + x) (same_cycle f)

  pub most_more : (f : Machine → ℕ) → most_of c program from (to + 1) f ≡ max (most_of c program from to f) (f (after c program (to + 1)))
  most_more f =
      ap (λ n. greatest n (λ k. f (after c program (from + k + 1)))) one_longer
      ∙ greatest_more (to - from) (λ k. f (after c program (from + k + 1)))
      ∙ ap (λ x. max (most_of c program from to f) x) (same_cycle f)

pub greatest_same : (n : ℕ) (f g : ℕ → ℕ) → ((k : ℕ) → k < n → f k ≡ g k) → greatest n f ≡ greatest n g
unfolding greatest
greatest_same zero f g same = refl
greatest_same (suc n) f g same =
    let rest = greatest_same n f g (λ k h. same k (omega arith)) in
    let last = same n (omega arith) in
    ap (λ x. max x (f n)) rest ∙ ap (max (greatest n g)) last
