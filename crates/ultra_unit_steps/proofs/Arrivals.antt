-- a request that arrives frees no place of a queue, and the record that is kept gives its combination
use Rattle.std.proofs.Common.{◌≡◌, ℕ, ◌-◌, ◌≤◌, List, [], ◌∷◌, ◌++◌, refl, arith, length, length-append, Option, Some, IfSome, slice_get, not}
use Rattle.ultra_unit_steps.proofs.Common.{common_steps, is_fixed, Combined, Request, WaitRecord, SizedLane, combination_in, arrive_all}
use Rattle.ultra_model.proofs.Capacities.{arrive_queue}
use Rattle.ultra_switch.specs.declared.{QueueEntry.QueueEntry, Arrived.TheVariants.CombinedWith}
use Rattle.ultra_switch.specs.Arrive.{Lane, Combination, combine, combine_within, after_arrival, arrive, outcome}

-- ---- how long the queue is
combine_keeps : (r : Request) (es : List QueueEntry) → IfSome (combine r es) (λ c. length c.queue ≡ length es)
combine_keeps r [] = tt
combine_keeps r (e ∷ es) = grind (arith, combine_keeps r es)

pub arrive_all_no_shorter : (w : ℕ) (l : Lane) (rs : List Request) → length l.queue ≤ length (arrive_all w l rs).queue
arrive_all_no_shorter w l [] = omega arith
arrive_all_no_shorter w l (r ∷ rs) = let kept = combine_keeps r l.queue in grind (arith, length-append, arrive_all_no_shorter w (arrive w l r) rs)

-- ---- its combination
at_end : {X : Type 0} (xs : List X) (y : X) → slice_get (xs ++ y ∷ []) (length xs) ≡ Some y
at_end [] y = refl
at_end (x ∷ xs) y = at_end xs y

pub combination_kept : (s x p : ℕ) (r : Request) (l : SizedLane) (o : Option Combination) (w : WaitRecord) → o ≡ combine_within l.wait_places l.lane r → outcome o ≡ CombinedWith p
    → slice_get (after_arrival l.lane r o).records (length (after_arrival l.lane r o).records - 1) ≡ Some w
    → combination_in s x l r ≡ Some (Combined s x r.cell p r.pe (not (is_fixed w.give_old)))
combination_kept s x p r l o w is e h = let last = at_end l.lane.records in grind (arith, at_end, length-append)

pub ruleset arrivals = (common_steps, arrive_queue, combination_kept)
