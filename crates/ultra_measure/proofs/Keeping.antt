-- what a window keeps: at its start, and by one cycle more
use Rattle.std.proofs.Common.{ℕ, zero, suc, List, ◌≡◌, ◌+◌, ◌-◌, ◌*◌, ◌^◌, ◌<◌, ◌≤◌, max, get_or, replicate, refl, sym, ap, ◌∙◌, arith}
use Rattle.ultra_isa.specs.declared.Instr.{Instr}
use Rattle.ultra_model.specs.{Machine.{Settings, Machine}, Phases.after, Balance.total}
use Rattle.ultra_measure.specs.{Window.{greatest, most_of}, Kept.IsSum}
use Rattle.ultra_measure.proofs.More.{no_total, no_greatest, sum_more, most_more}

pub zeros : (n k d : ℕ) → d ≡ 0 → get_or (replicate n d) k d ≡ d
zeros zero k d is = refl
zeros (suc n) zero d is = refl
zeros (suc n) (suc k) d is = zeros n k d is

module _ (c : Settings) (program : List Instr) (from : ℕ) where
  no_cycle : from - from ≡ 0
  no_cycle = omega arith

  pub nothing_summed : (f : Machine → ℕ) (n : ℕ) → n ≡ 0 → IsSum c program from from f n
  nothing_summed f n is = record {
    is = is ∙ sym (ap (λ k. total k (λ k. f (after c program (from + k + 1)))) no_cycle ∙ no_total (λ k. f (after c program (from + k + 1))));
    small = omega arith;
  }

  pub no_most : (f : Machine → ℕ) (n : ℕ) → n ≡ 0 → n ≡ most_of c program from from f
  no_most f n is = is ∙ sym (ap (λ k. greatest k (λ k. f (after c program (from + k + 1)))) no_cycle ∙ no_greatest (λ k. f (after c program (from + k + 1))))

  module _ (to : ℕ) (order : from ≤ to) where
    module _ (m : Machine) (run : m ≡ after c program (to + 1)) where
      pub sum_goes_on : (f : Machine → ℕ) {a v b : ℕ} → IsSum c program from to f a → v ≡ f m → v < 2 ^ 32 → b ≡ a + v → IsSum c program from (to + 1) f b
      sum_goes_on f {a} {v} {b} sum value small next =
          let more = sum_more c program from to order f in
          let now : v ≡ f (after c program (to + 1)) = value ∙ ap f run in
          record { is = omega (arith, sum.is, now, next, more); small = omega (arith, sum.small, next, small, order) }

      pub most_goes_on : (f : Machine → ℕ) {a v b : ℕ} → a ≡ most_of c program from to f → v ≡ f m → b ≡ max a v → b ≡ most_of c program from (to + 1) f
      most_goes_on f {a} {v} {b} most value next =
          let more = most_more c program from to order f in
          let now : v ≡ f (after c program (to + 1)) = value ∙ ap f run in
          omega (arith, most, now, next, more)

      -- a sum that grows by no more than a value can be
      pub small_goes_on : {a b : ℕ} → a ≤ (to - from) * (2 ^ 32 - 1) → b ≤ a + (2 ^ 32 - 1) → b ≤ (to + 1 - from) * (2 ^ 32 - 1)
      small_goes_on old next = omega (arith, old, next, order)
