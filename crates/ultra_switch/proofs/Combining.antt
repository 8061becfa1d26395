-- where a request combines, by the places of the entries
use Rattle.std.proofs.Common.{◌≡◌, ℕ, zero, suc, ◌<◌, ◌≤◌, length, List, [], ◌∷◌, Bool, true, false, refl, arith, ap, get_or}
use Rattle.std.specs.{Prelude.{Option, Some, None, slice_get, nat_lt}, List.{position, position_or_len}}
use Rattle.std.proofs.lemmas.{Grind.common_steps, List.Sums.fails_before_first, Option.get_or_from_slice_get}
use Rattle.ultra_msg.specs.declared.Request.{Request}
use Rattle.ultra_switch.specs.{declared.QueueEntry.QueueEntry, Partner.{IsFirst, IsPartner, combination_at}, Arrive.{Lane, combine, combine_within, behind, can_combine}}

module _ {X : Type 0} where
  -- where no item passes, each of them fails
  pub fails_at_each : (p : X → Bool) (xs : List X) → position p xs ≡ None → (k : ℕ) (d : X) → k < length xs → p (get_or xs k d) ≡ false
  fails_at_each p xs none k d within =
      let first : length xs ≤ position_or_len p xs = grind (arith, common_steps) in
      fails_before_first p xs k d (omega arith)

abbrev NoneBefore : Request → List QueueEntry → ℕ → Type 0
NoneBefore r es n = (k : ℕ) (d : QueueEntry) → k < n → can_combine r (get_or es k d) ≡ false

combines_nowhere : (r : Request) (es : List QueueEntry) → NoneBefore r es (length es) → combine r es ≡ None
combines_nowhere r [] fails = refl
combines_nowhere r (e ∷ es) fails =
    let first : can_combine r e ≡ false = fails 0 e (omega arith) in
    rw (combine, first) (ap (behind e) (combines_nowhere r es (λ k d within. fails (suc k) d (omega arith))))

combines_at : (r : Request) (es : List QueueEntry) (k : ℕ) (e : QueueEntry) → NoneBefore r es k → slice_get es k ≡ Some e → can_combine r e ≡ true → combine r es ≡ Some (combination_at r es k e)
combines_at r [] k e fails there passes = cc
combines_at r (x ∷ es) zero e fails there passes =
    let same : x ≡ e = cc in
    let here : can_combine r x ≡ true = rw same passes in
    rw (combine, here, same) refl
combines_at r (x ∷ es) (suc k) e fails there passes =
    let first : can_combine r x ≡ false = fails 0 e (omega arith) in
    rw (combine, first) (ap (behind x) (combines_at r es k e (λ j d within. fails (suc j) d (omega arith)) there passes))

-- a request combines with the entry at the place that was found
pub combines_within : (w : ℕ) (l : Lane) (r : Request) (k : ℕ) (e : QueueEntry) → length l.records < w → IsFirst (can_combine r) l.queue (Some k) → slice_get l.queue k ≡ Some e → combine_within w l r ≡ Some (combination_at r l.queue k e)
combines_within w l r k e room found there =
    let free : nat_lt (length l.records) w ≡ true = grind arith in
    let same : get_or l.queue k e ≡ e = get_or_from_slice_get l.queue k e e there in
    let first : can_combine r (get_or l.queue k e) ≡ true = found.1 e in
    let passes : can_combine r e ≡ true = rw same at first in
    rw (combine_within, free) (combines_at r l.queue k e (λ j d before. found.2 j before d) there passes)

-- where the wait buffer is full it doesn't combine
pub combines_not_full : (w : ℕ) (l : Lane) (r : Request) → w ≤ length l.records → combine_within w l r ≡ None
combines_not_full w l r full =
    let none : nat_lt (length l.records) w ≡ false = grind arith in
    rw (combine_within, none) refl

-- where no place was found it doesn't combine
pub combines_not : (w : ℕ) (l : Lane) (r : Request) → IsFirst (can_combine r) l.queue None → combine_within w l r ≡ None
combines_not w l r none =
    let nowhere : combine r l.queue ≡ None = combines_nowhere r l.queue (λ k d within. none k within d) in
    by (nat_lt (length l.records) w) refl nowhere
  where
    by : (b : Bool) → nat_lt (length l.records) w ≡ b → combine r l.queue ≡ None → combine_within w l r ≡ None
    by true free nowhere = rw (combine_within, free) nowhere
    by false full nowhere = rw (combine_within, full) refl

-- where the wait buffer has a free place, the place that was found is the partner's
pub is_partner : (w : ℕ) (l : Lane) (r : Request) (found : Option ℕ) → length l.records < w → IsFirst (can_combine r) l.queue found → IsPartner w l r found
is_partner w l r None room none = combines_not w l r none
is_partner w l r (Some k) room first = (first.0, λ e there. combines_within w l r k e room first there)
