-- which entry of a queue a request combines with, by its place
use Rattle.std.specs.Prelude.{◌≡◌, ℕ, ◌<◌, List, Bool, true, false, length, Option, Some, None, slice_index_or, slice_get, slice_set}
use Rattle.std.specs.Option.{MatchOption}
use Rattle.ultra_msg.specs.declared.Request.{Request}
use Rattle.ultra_switch.specs.{declared.QueueEntry.QueueEntry, Arrive.{Lane, Combination, combine_within, combined_entry}}

module _ {X : Type 0} (p : X → Bool) (xs : List X) where
  abbrev pub Fails : ℕ → Type 0
  Fails k = (d : X) → p (slice_index_or xs k d) ≡ false

  abbrev pub Passes : ℕ → Type 0
  Passes k = (d : X) → p (slice_index_or xs k d) ≡ true

  -- the place that was found is the first that passes a test; where none was found, none passes
  abbrev pub IsFirst : Option ℕ → Type 0
  IsFirst found = MatchOption found
      ((k : ℕ) → k < length xs → Fails k)
      (λ i. (i < length xs) × Passes i × ((k : ℕ) → k < i → Fails k))

-- a request combines with the entry at a place
abbrev pub combination_at : Request → List QueueEntry → ℕ → QueueEntry → Combination
combination_at r es k e = record { queue = slice_set es k (combined_entry e r); old = e }

-- where a place is given, the request combines with the entry there; where none is, it combines
-- with none
abbrev pub IsPartner : ℕ → Lane → Request → Option ℕ → Type 0
IsPartner wait_places l r found = MatchOption found
    (combine_within wait_places l r ≡ None)
    (λ k. (k < length l.queue)
    × ((e : QueueEntry) → slice_get l.queue k ≡ Some e
    → combine_within wait_places l r ≡ Some (combination_at r l.queue k e)))
