-- the first entry of a queue that passes a test
use Rattle.std.proofs.Common.{◌≡◌, ℕ, zero, suc, ◌<◌, ◌≤◌, length, List, [], ◌∷◌, Bool, true, false, arith, get_or}
use Rattle.std.specs.{Prelude.{Option, Some, None, IfSome, slice_get}, Option.MatchOption}
use Rattle.ultra_switch.specs.Partner.{IsFirst}

module _ {X : Type 0} (p : X → Bool) where
  -- what a test says of the item at a place
  abbrev pub Says : List X → Bool → ℕ → Type 0
  Says xs b k = IfSome (slice_get xs k) (λ x. p x ≡ b)

  says-at : (xs : List X) (b : Bool) (k : ℕ) (d : X) → k < length xs → Says xs b k → p (get_or xs k d) ≡ b
  says-at [] b k d within says = absurd (omega arith)
  says-at (x ∷ xs) b zero d within says = says
  says-at (x ∷ xs) b (suc k) d within says = says-at xs b k d (omega arith) says

  -- what a search over the places has found
  pub first_of_places : (xs : List X) (n : ℕ) (found : Option ℕ) → n ≡ length xs
      → MatchOption found ((k : ℕ) → 0 ≤ k → k < n → Says xs false k) (λ i. (0 ≤ i) × (i < n) × Says xs true i × ((k : ℕ) → 0 ≤ k → k < i → Says xs false k))
      → IsFirst p xs found
  first_of_places xs n None long fails = λ k within d. says-at xs false k d within (fails k (omega arith) (omega arith))
  first_of_places xs n (Some i) long first =
      (omega (arith, first.1), λ d. says-at xs true i d (omega (arith, first.1)) first.2, λ k before d. says-at xs false k d (omega (arith, first.1)) (first.3 k (omega arith) before))
