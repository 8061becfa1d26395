-- Visits that change nothing may be left out.
use Rattle.std.proofs.Common.{◌≡◌, ℕ, zero, suc, ◌+◌, ◌-◌, ◌^◌, ◌≤◌, ◌<◌, Bool, List, Option, Some, None, true, false, get_or, refl, sym, ◌∙◌, ap, inl, inr, arith, w64, IfNone, IfSome}
use Rattle.std.proofs.lemmas.Nat.Bits.{bit_at-trailing_zeros, bit_at-zero, bit_at_above}
use Rattle.ultra_topology.proofs.Common.{cases_lt, has_bit, nat_tests, word_end, HasCome, IsWalk, Walk}
use Rattle.ultra_topology.proofs.Set.{behind, bit_of_number, bits_behind, first, is_walk}
use Rattle.ultra_topology.specs.{Set.has_unit, Visits.after_units}

-- after the visits below `from`, those of the units up to another number change nothing
skipped : {T : Type 0} (f : ℕ → T → T) (old now : T) (from to : ℕ) → from ≤ to → now ≡ after_units f from old → ((k : ℕ) → from ≤ k → k < to → f k now ≡ now)
    → now ≡ after_units f to old
unfolding after_units
skipped f old now from zero order is still = let end : from ≡ 0 = omega arith in is ∙ ap (λ k. after_units f k old) end
skipped f old now from (suc to) order is still = elim (cases_lt to from) [
  | inl past ↦ let end : from ≡ suc to = omega arith in is ∙ ap (λ k. after_units f k old) end
  | inr before ↦ sym (still to before (omega arith)) ∙ ap (f to) (skipped f old now from to before is (λ k after within. still k after (omega arith)))
]

pub none_to_do : {T : Type 0} (f : ℕ → T → T) (t : T) → ((k : ℕ) → f k t ≡ t) → t ≡ after_units f 320 t
unfolding after_units
none_to_do f t still = skipped f t t 0 320 (omega arith) refl (λ k _ _. still k)

-- the number of the unit to which a walk has come, or the end
abbrev pub place : Option Walk → ℕ
place None = 320
place (Some w) = w.unit

-- all units below that are visited, and those in its word that the walk doesn't keep have nothing to do
pub record HasPassed {T : Type 0} (f : ℕ → T → T) (can_visit is_idle : ℕ → T → Type 0) (old now : T) (next : Option Walk) : Type 0 where
  pub visited : now ≡ after_units f (place next) old
  pub can : (k : ℕ) → place next ≤ k → k < 320 → can_visit k now
  pub idle : IfSome next (λ w. (k : ℕ) → w.unit < k → k < word_end w.unit → has_bit w.rest (k - (w.unit + 1)) ≡ false → is_idle k now)
  pub walk : IfSome next IsWalk

-- a walk comes to the first of some units from `from` on, up to which all are visited, where the others have nothing to do
module _ {T : Type 0} (f : ℕ → T → T) (can_visit is_idle : ℕ → T → Type 0) (old now : T) (still : (k : ℕ) → is_idle k now → f k now ≡ now) (are : ℕ → Bool) (from : ℕ) (small : from ≤ 320) (visited : now ≡ after_units f from old) (others : (k : ℕ) → from ≤ k → are k ≡ false → is_idle k now) (can : (k : ℕ) → from ≤ k → k < 320 → can_visit k now) where
  pub passed_to : (next : Option Walk) → IfSome next (HasCome are from) → IfNone next ((k : ℕ) → from ≤ k → are k ≡ false) → HasPassed f can_visit is_idle old now next
  passed_to next some none = let past = λ (to : ℕ) (order : from ≤ to). skipped f old now from to order visited in grind (arith, bit_of_number, is_walk)

-- ---- a walk over one word
-- the units below n are visited, and `units` are those from there on that may have something to do
pub record HasVisited {T : Type 0} (f : ℕ → T → T) (can_visit is_idle : ℕ → T → Type 0) (old now : T) (units n : ℕ) : Type 0 where
  pub visited : now ≡ after_units f n old
  pub can : (k : ℕ) → n ≤ k → k < 320 → can_visit k now
  pub still : (k : ℕ) → is_idle k now → f k now ≡ now
  pub later : (k : ℕ) → has_bit units k ≡ true → (n ≤ k) × (k < 64)
  pub idle : (k : ℕ) → n ≤ k → has_bit units k ≡ false → is_idle k now

pub begun : {T : Type 0} (f : ℕ → T → T) (can_visit is_idle : ℕ → T → Type 0) (now : T) (words : List ℕ) → get_or words 0 0 < 2 ^ 64
    → ((k : ℕ) → k < 320 → can_visit k now) → ((k : ℕ) → is_idle k now → f k now ≡ now) → ((k : ℕ) → has_unit words k ≡ false → is_idle k now) → ((k : ℕ) → 64 ≤ k → is_idle k now)
    → HasVisited f can_visit is_idle now now (get_or words 0 0) 0
unfolding after_units has_unit
begun f can_visit is_idle now words fits can still idle others =
    let past = bit_at_above (get_or words 0 0) 64 in
    grind (arith, nat_tests)

module _ {T : Type 0} (f : ℕ → T → T) (can_visit is_idle : ℕ → T → Type 0) (old now : T) (units n : ℕ) (so_far : HasVisited f can_visit is_idle old now units n) where
  reached : (to : ℕ) → n ≤ to → ((k : ℕ) → has_bit units k ≡ true → to ≤ k) → now ≡ after_units f to old
  reached to order none = skipped f old now n to order so_far.visited (λ k after before. so_far.still k (so_far.idle k after (let later = none k in grind (arith, nat_tests))))

  pub all_visited : n ≤ 320 → units ≡ 0 → now ≡ after_units f 320 old
  all_visited small none = reached 320 small (λ k there. let clear = bit_at-zero k in grind (arith, nat_tests))

  module _ (some : 0 < units) (fits : units < 2 ^ 64) where
    pub first_is : (n ≤ first units) × (first units < 64)
    first_is = let lowest = bit_at-trailing_zeros w64 units some fits in let later = so_far.later (first units) in grind (arith, nat_tests)

    pub stepped : (new : T) → new ≡ f (first units) now → ((k : ℕ) → first units < k → can_visit k now → can_visit k new) → ((k : ℕ) → first units < k → is_idle k now → is_idle k new)
        → ((k : ℕ) → is_idle k new → f k new ≡ new) → HasVisited f can_visit is_idle old new (behind units) (first units + 1)
    unfolding after_units
    stepped new is can idle still =
        let at = first_is in
        let lowest = bit_at-trailing_zeros w64 units some fits in
        let before = reached (first units) at.0 (λ k there. grind (arith, nat_tests, lowest.2)) in
        let bits = bits_behind units some fits in
        grind (arith, nat_tests, is, before, so_far.can, so_far.later, so_far.idle)
