-- what a stage holds, by those of its switches that hold something
use Rattle.std.proofs.Common.{ℕ, zero, suc, refl, ◌≡◌, ◌+◌, ◌-◌, ◌*◌, ◌^◌, ◌<◌, List, length, max, false, ap, sym, ◌∙◌, arith}
use Rattle.std.proofs.lemmas.Bool.Decides.{nat_tests}
use Rattle.ultra_model.specs.{Machine.{Settings, Machine}, Balance.total}
use Rattle.ultra_topology.specs.{Numbers.switch_number, Set.has_unit}
use Rattle.ultra_block.specs.{Held.{Held, TheVariants.{Reply, Request, Record}}, IsSetOf, Holding.holds}
use Rattle.ultra_block.proofs.NothingHeld.{no_replies, no_requests, no_records}
use Rattle.ultra_measure.specs.{Held.{held_at, full_at, is_full, wait_places_of}, Window.greatest}
use Rattle.ultra_holders.specs.Holders.{numbers_in}
use Rattle.ultra_measure.proofs.Gathered.{added, topmost, added_pairs, topmost_pairs}

none_full : (places : ℕ) {held : ℕ} → held ≡ 0 → is_full places held ≡ 0
none_full zero {held} is = refl
none_full (suc n) {held} is = grind (arith, nat_tests)

module _ (d : ℕ) (m : Machine) (s : ℕ) (hs : s < d) (even : 2 ^ d ≡ 2 * 2 ^ (d - 1)) where
  -- a switch that holds nothing of a kind
  both_zero : (held : Held) (k : ℕ) → k < 2 ^ (d - 1) → holds d m held (switch_number d s k) ≡ false → (held_at held s m (2 * k) ≡ 0) × (held_at held s m (2 * k + 1) ≡ 0)
  both_zero Request k hk none = let it = no_requests d m s k hs hk none in (ap length it.0, ap length it.1)
  both_zero Record k hk none = let it = no_records d m s k hs hk none in (ap length it.0, ap length it.1)
  both_zero Reply k hk none = let it = no_replies d m s k hs hk none in (ap length it.0, ap length it.1)

  module _ (held : Held) (units : List ℕ) (are : IsSetOf (holds d m held) units) where
    both_zero_in : (k : ℕ) → k < 2 ^ (d - 1) → has_unit units (switch_number d s 0 + k) ≡ false → (held_at held s m (2 * k) ≡ 0) × (held_at held s m (2 * k + 1) ≡ 0)
    both_zero_in k hk none =
        let number : switch_number d s 0 + k ≡ switch_number d s k = omega arith in
        both_zero held k hk (sym (are (switch_number d s k)) ∙ rw number at none)

    abbrev at : ℕ → ℕ
    at = held_at held s m

    abbrev all : List ℕ
    all = numbers_in units (switch_number d s 0) (2 ^ (d - 1))

    pub stage_sum : added (λ k. at (2 * k) + at (2 * k + 1)) all ≡ total (2 ^ d) at
    stage_sum = added_pairs (λ k. has_unit units (switch_number d s 0 + k)) (2 ^ (d - 1)) (2 ^ d) at even (λ k hk none. let zeros = both_zero_in k hk none in omega (arith, zeros.0, zeros.1))

    pub stage_most : topmost (λ k. max (at (2 * k)) (at (2 * k + 1))) all ≡ greatest (2 ^ d) at
    stage_most = topmost_pairs (λ k. has_unit units (switch_number d s 0 + k)) (2 ^ (d - 1)) (2 ^ d) at even (λ k hk none. let zeros = both_zero_in k hk none in omega (arith, zeros.0, zeros.1))

    -- what holds nothing isn't full
    pub stage_full : (c : Settings) → added (λ k. full_at c held s m (2 * k) + full_at c held s m (2 * k + 1)) all ≡ total (2 ^ d) (full_at c held s m)
    stage_full c = added_pairs (λ k. has_unit units (switch_number d s 0 + k)) (2 ^ (d - 1)) (2 ^ d) (full_at c held s m) even (λ k hk none. let zeros = both_zero_in k hk none in omega (arith, none_full (wait_places_of c held) zeros.0, none_full (wait_places_of c held) zeros.1))
