-- sums and maxima over positions and over cycles, in either order
use Rattle.std.proofs.Common.{ℕ, zero, suc, ◌≡◌, ◌+◌, ◌-◌, max, refl, sym, ap, ◌∙◌, arith}
use Rattle.ultra_model.specs.{Machine.{size}, Phases.after, Balance.{count, total}}
use Rattle.ultra_model.proofs.Sums.{total_none, total_next, total_same, total_plus, total_zero}
use Rattle.ultra_latency.specs.Latency.{latencies}
use Rattle.ultra_measure.specs.{Held.{held_at, full_waits}, Window.greatest, EventKinds.is_combination_in}
use Rattle.ultra_measure.proofs.More.{greatest_same}
use Rattle.ultra_statistics.specs.{Ports.is_combination_at, PortLaw.PortLaw, LatencyLaw.LatencyLaw}
use Rattle.ultra_statistics.proofs.EventLaws.{as_many, all_below, by_latency, by_position, events_below}

pub total_swap : (n m : ℕ) (f : ℕ → ℕ → ℕ) → total n (λ x. total m (λ k. f k x)) ≡ total m (λ k. total n (f k))
total_swap zero m f = total_none (λ x. total m (λ k. f k x)) ∙ sym (total_zero m (λ k. total 0 (f k)) (λ k h. total_none (f k)))
total_swap (suc n) m f =
    total_next n (λ x. total m (λ k. f k x))
    ∙ ap (λ v. v + total m (λ k. f k n)) (total_swap n m f)
    ∙ sym (total_plus m (λ k. total n (f k)) (λ k. f k n))
    ∙ total_same m (λ k. total n (f k) + f k n) (λ k. total (suc n) (f k)) (λ k h. sym (total_next n (f k)))

greatest_next : (n : ℕ) (f : ℕ → ℕ) → greatest (suc n) f ≡ max (greatest n f) (f n)
unfolding greatest
greatest_next n f = refl

greatest_none : (f : ℕ → ℕ) → greatest 0 f ≡ 0
unfolding greatest
greatest_none f = refl

greatest_zero : (n : ℕ) → greatest n (λ k. 0) ≡ 0
greatest_zero zero = greatest_none (λ k. 0)
greatest_zero (suc n) = omega (arith, greatest_next n (λ k. 0), greatest_zero n)

greatest_both : (n : ℕ) (f g : ℕ → ℕ) → greatest n (λ k. max (f k) (g k)) ≡ max (greatest n f) (greatest n g)
greatest_both zero f g = omega (arith, greatest_none f, greatest_none g, greatest_none (λ k. max (f k) (g k)))
greatest_both (suc n) f g = omega (arith, greatest_both n f g, greatest_next n f, greatest_next n g, greatest_next n (λ k. max (f k) (g k)))

pub greatest_swap : (n m : ℕ) (f : ℕ → ℕ → ℕ) → greatest n (λ x. greatest m (λ k. f k x)) ≡ greatest m (λ k. greatest n (f k))
greatest_swap zero m f = greatest_none (λ x. greatest m (λ k. f k x)) ∙ sym (greatest_same m (λ k. greatest 0 (f k)) (λ k. 0) (λ k h. greatest_none (f k)) ∙ greatest_zero m)
greatest_swap (suc n) m f =
    greatest_next n (λ x. greatest m (λ k. f k x))
    ∙ ap (λ v. max v (greatest m (λ k. f k n))) (greatest_swap n m f)
    ∙ sym (greatest_both m (λ k. greatest n (f k)) (λ k. f k n))
    ∙ greatest_same m (λ k. max (greatest n (f k)) (f k n)) (λ k. greatest (suc n) (f k)) (λ k h. sym (greatest_next n (f k)))

pub port_law : PortLaw
port_law c program from to s = record {
  sums = λ held. total_swap (size c) (to - from) (λ k x. held_at held s (after c program (from + k + 1)) x);
  most = λ held. greatest_swap (size c) (to - from) (λ k x. held_at held s (after c program (from + k + 1)) x);
  full_waits = total_swap (size c) (to - from) (λ k x. full_waits c s (after c program (from + k + 1)) x);
  combined =
      total_swap (size c) (to - from) (λ k x. count (is_combination_at s x) (after c program (from + k + 1)).events)
      ∙ total_same (to - from) (λ k. total (size c) (λ x. count (is_combination_at s x) (after c program (from + k + 1)).events)) (λ k. count (is_combination_in s) (after c program (from + k + 1)).events) (λ k h. by_position (size c) s (after c program (from + k + 1)).events (events_below c program (from + k)));
}

pub latency_law : LatencyLaw
latency_law c program from to = record {
  deliveries = as_many c program from to;
  rows = by_latency to (latencies c program from to) (all_below c program from to);
}
