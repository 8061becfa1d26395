-- what one state more makes of the counts of a window
use Rattle.std.proofs.Common.{ℕ, List, ◌≡◌, ◌+◌, ◌-◌, ◌<◌, ◌≤◌, Bool, true, false, max, refl, sym, ap, ◌∙◌, arith}
use Rattle.ultra_isa.specs.declared.Instr.{Instr}
use Rattle.ultra_model.specs.{Machine.{Settings, Machine}, Phases.after, Balance.{total, weight}}
use Rattle.ultra_measure.specs.Window.{greatest, sum_of, most_of}
use Rattle.ultra_measure.proofs.More.{no_total, no_greatest, total_more, sum_more, most_more}
use Rattle.ultra_statistics.specs.{Ports.sum_before, Kept.if_so}

module _ (c : Settings) (program : List Instr) (from : ℕ) where
  pub no_sum : (to : ℕ) (f : Machine → ℕ) → to ≤ from → sum_of c program from to f ≡ 0
  no_sum to f early = ap (λ n. total n (λ k. f (after c program (from + k + 1)))) (omega (arith, early)) ∙ no_total (λ k. f (after c program (from + k + 1)))

  pub no_most : (to : ℕ) (f : Machine → ℕ) → to ≤ from → most_of c program from to f ≡ 0
  no_most to f early = ap (λ n. greatest n (λ k. f (after c program (from + k + 1)))) (omega (arith, early)) ∙ no_greatest (λ k. f (after c program (from + k + 1)))

  pub no_sum_before : (to : ℕ) (f : Machine → ℕ) → to ≤ from → sum_before c program from to f ≡ 0
  no_sum_before to f early = ap (λ n. total n (λ k. f (after c program (from + k)))) (omega (arith, early)) ∙ no_total (λ k. f (after c program (from + k)))

  sum_before_more : (to : ℕ) (f : Machine → ℕ) → from ≤ to → sum_before c program from (to + 1) f ≡ sum_before c program from to f + f (after c program to)
  sum_before_more to f order =
      ap (λ n. total n (λ k. f (after c program (from + k)))) (omega (arith, order))
      ∙ total_more (to - from) (λ k. f (after c program (from + k)))
      ∙ ap (λ n. sum_before c program from to f + f (after c program n)) (omega (arith, order))

  -- a state with which a cycle of the window ended, or not
  module _ (n : ℕ) (m : Machine) (is : m ≡ after c program n) where
    last_is : from < n → (f : Machine → ℕ) → f (after c program (n - 1 + 1)) ≡ f m
    last_is late f = ap (λ k. f (after c program k)) (omega (arith, late)) ∙ ap f (sym is)

    pub sum_with : (ended : Bool) (f : Machine → ℕ) → (ended ≡ true → from < n) → (ended ≡ false → n ≤ from) → sum_of c program from n f ≡ sum_of c program from (n - 1) f + if_so ended (f m)
    sum_with true f late early =
        let h = late refl in
        ap (λ k. sum_of c program from k f) (omega (arith, h))
        ∙ sum_more c program from (n - 1) (omega (arith, h)) f
        ∙ ap (λ v. sum_of c program from (n - 1) f + v) (last_is h f)
    sum_with false f late early =
        let h = early refl in
        omega (arith, no_sum n f h, no_sum (n - 1) f (omega (arith, h)))

    pub most_with : (ended : Bool) (f : Machine → ℕ) → (ended ≡ true → from < n) → (ended ≡ false → n ≤ from) → most_of c program from n f ≡ max (most_of c program from (n - 1) f) (if_so ended (f m))
    most_with true f late early =
        let h = late refl in
        ap (λ k. most_of c program from k f) (omega (arith, h))
        ∙ most_more c program from (n - 1) (omega (arith, h)) f
        ∙ ap (max (most_of c program from (n - 1) f)) (last_is h f)
    most_with false f late early =
        let h = early refl in
        omega (arith, no_most n f h, no_most (n - 1) f (omega (arith, h)))

    -- a state with which one begins, or not
    pub sum_before_with : (begins : Bool) (f : Machine → ℕ) → from ≤ n → sum_before c program from (n + weight begins) f ≡ sum_before c program from n f + if_so begins (f m)
    sum_before_with true f order = sum_before_more n f order ∙ ap (λ s. sum_before c program from n f + f s) (sym is)
    sum_before_with false f order = ap (λ k. sum_before c program from k f) (omega arith) ∙ (let e : sum_before c program from n f ≡ sum_before c program from n f + 0 = omega arith in e)
