-- the lines of hot requests, computed over every network of at most six stages
use Rattle.std.proofs.Common.{◌≡◌, ℕ, ◌+◌, ◌-◌, ◌^◌, ◌<◌, ◌≤◌, Bool, true, false, ◌&&◌, refl, arith, sym, subst}
use Rattle.std.specs.Prelude.{◌==◌, not}
use Rattle.std.proofs.lemmas.Bool.{eqb-true}
use Rattle.ultra_route.specs.Route.{unshuffled, bit_of, with_lowest}
use Rattle.ultra_route.proofs.Table.{all_below, all_below_at}
use Rattle.ultra_model.proofs.Counting.{both_true}
use Rattle.ultra_serial_law.specs.HotCell.{leads_to}

abbrev same : Bool → Bool → Bool
same true b = b
same false b = not b

same_is : (a b : Bool) → same a b ≡ true → a ≡ b
same_is true true h = refl
same_is true false h = absurd cc
same_is false true h = absurd cc
same_is false false h = refl

abbrev implies : Bool → Bool → Bool
implies true b = b
implies false b = true

implied : (a b : Bool) → implies a b ≡ true → a ≡ true → b ≡ true
implied true b h e = h
implied false b h e = absurd cc

-- of the position that a request for module k leaves by
abbrev turned : ℕ → ℕ → ℕ → ℕ → ℕ
turned d s k y = with_lowest y (bit_of (d - 1 - s) k)

abbrev leads_right : ℕ → ℕ → ℕ → ℕ → Bool
leads_right d s k y =
    same (leads_to d k s (unshuffled d y)) (leads_to d k (s + 1) (turned d s k y))
    && implies (leads_to d k (s + 1) y) (turned d s k y == y)

abbrev all_lead : ℕ → Bool
all_lead d = all_below (λ s. all_below (λ k. all_below (λ y. leads_right d s k y) (2 ^ d)) (2 ^ d)) d

all_lead_right : all_below (λ i. all_lead (i + 1)) 6 ≡ true
unfolding all_below
all_lead_right = refl

leads : (i s k y : ℕ) → i < 6 → s < i + 1 → k < 2 ^ (i + 1) → y < 2 ^ (i + 1) → leads_right (i + 1) s k y ≡ true
leads i s k y hi hs hk hy =
    all_below_at (λ y. leads_right (i + 1) s k y) (2 ^ (i + 1))
    (all_below_at (λ k. all_below (λ y. leads_right (i + 1) s k y) (2 ^ (i + 1))) (2 ^ (i + 1))
    (all_below_at (λ s. all_below (λ k. all_below (λ y. leads_right (i + 1) s k y) (2 ^ (i + 1))) (2 ^ (i + 1))) (i + 1)
    (all_below_at (λ i. all_lead (i + 1)) 6 all_lead_right i hi) s hs) k hk) y hy

-- a line leads to a module where the line that a request takes from there does, and a position that leads there is the one that its switch turns to
pub record Leads (d s k y : ℕ) : Type 0 where
  pub on : leads_to d k s (unshuffled d y) ≡ leads_to d k (s + 1) (with_lowest y (bit_of (d - 1 - s) k))
  pub turns : leads_to d k (s + 1) y ≡ true → with_lowest y (bit_of (d - 1 - s) k) ≡ y

leads_from : (d s k y : ℕ) → leads_right d s k y ≡ true → Leads d s k y
leads_from d s k y h =
    let two = both_true (same (leads_to d k s (unshuffled d y)) (leads_to d k (s + 1) (turned d s k y))) (implies (leads_to d k (s + 1) y) (turned d s k y == y)) h in
    record {
      on = same_is _ _ two.0;
      turns = λ e. eqb-true (turned d s k y) y (implied (leads_to d k (s + 1) y) (turned d s k y == y) two.1 e);
    }

pub lead : (d s k y : ℕ) → 1 ≤ d → d ≤ 6 → s < d → k < 2 ^ d → y < 2 ^ d → Leads d s k y
lead d s k y low high hs hk hy =
    let e : d ≡ (d - 1) + 1 = omega arith in
    let small : d - 1 < 6 = omega arith in
    subst (λ x. s < x → k < 2 ^ x → y < 2 ^ x → Leads x s k y) (sym e) (λ a b c. leads_from _ _ _ _ (leads (d - 1) s k y small a b c)) hs hk hy
