-- settings that are accepted are in their ranges
use Rattle.std.proofs.Common.{◌≡◌, ℕ, ◌<◌, ◌≤◌, List, [], ◌∷◌, Bool, true, false, not, Option, Some, None, refl, cond}
use Rattle.std.specs.{Prelude.{ℤ, pos, negsuc, Vec, find}, declared.alloc.Global.Global, List.{AllByRecursion, list_all}}
use Rattle.std.proofs.lemmas.{Bool.{leb-true, ltb-true}, List.Elements.All-from_recursion}
use Rattle.ultra_model.specs.{Ranges.AreInRange, declared.config.{RawSettings.RawSettings, Field.Field}}
use Rattle.ultra_model.specs.Accepted.{number_or_zero, is_within, is_cell, cells_of, are_different, are_initial_given, initial_of, all_cells_of, is_good, first_bad, settings_of}
use Rattle.ultra_model.specs.declared.config.Field.TheVariants.{Stages, RequestPlaces, ReplyPlaces, WaitPlaces, MostOpen, Cells, Cycles, Initial}
use Rattle.ultra_model.proofs.Counting.{both_true}

within : (a b : ℕ) (o : Option ℤ) → is_within a b o ≡ true → (a ≤ number_or_zero o) × (number_or_zero o ≤ b)
within a b None h = absurd cc
within a b (Some (pos n)) h = let p = both_true _ _ h in (leb-true a n p.0, leb-true n b p.1)
within a b (Some (negsuc n)) h = absurd cc

below : (n : ℕ) (is : List (ℤ × ℤ)) → list_all (is_cell n) is ≡ true → AllByRecursion (λ (i : ℕ × ℕ). i.0 < n) (cells_of is)
below n [] h = tt
below n ((pos a, v) ∷ is) h = let p = both_true _ _ h in (ltb-true a n (both_true _ _ p.0).0, below n is p.1)
below n ((negsuc a, v) ∷ is) h = absurd cc

all_below : (n : ℕ) (o : Option (Vec (ℤ × ℤ) Global)) → are_initial_given n o ≡ true → AllByRecursion (λ (i : ℕ × ℕ). i.0 < n) (initial_of o)
all_below n None h = absurd cc
all_below n (Some v) h = below n v.items (both_true (list_all (is_cell n) v.items) (are_different (cells_of v.items)) h).0

-- of the keys none is bad
AllGood : RawSettings → List Field → Type 0
AllGood r fs = AllByRecursion (λ f. is_good r f ≡ true) fs

one_good : (b : Bool) (f : Field) (rest : Option Field) → cond (not b) (Some f) rest ≡ None → (b ≡ true) × (rest ≡ None)
one_good true f rest h = (refl, h)
one_good false f rest h = absurd cc

all_good : (r : RawSettings) (fs : List Field) → find (λ f. not (is_good r f)) fs ≡ None → AllGood r fs
unfolding AllGood
all_good r [] h = tt
all_good r (f ∷ fs) h = let p = one_good (is_good r f) f (find (λ f. not (is_good r f)) fs) h in (p.0, all_good r fs p.1)

pub accepted_in_range : (r : RawSettings) → first_bad r ≡ None → AreInRange (settings_of r)
unfolding AllGood
accepted_in_range r h =
    let g = all_good r (Stages ∷ RequestPlaces ∷ ReplyPlaces ∷ WaitPlaces ∷ MostOpen ∷ Cells ∷ Cycles ∷ Initial ∷ []) h in
    let stages = within 1 6 r.stages g.0 in
    let requests = within 2 32 r.request_places g.1.0 in
    let replies = within 4 64 r.reply_places g.1.1.0 in
    let waits = within 0 16 r.wait_places g.1.1.1.0 in
    let opened = within 1 8 r.most_open g.1.1.1.1.0 in
    let cells = within 1 4096 r.cells g.1.1.1.1.1.0 in
    record {
      some_stages = stages.0;
      most_stages = stages.1;
      some_request_places = requests.0;
      most_request_places = requests.1;
      some_reply_places = replies.0;
      most_reply_places = replies.1;
      most_wait_places = waits.1;
      some_open = opened.0;
      few_open = opened.1;
      some_cells = cells.0;
      most_cells = cells.1;
      addresses = All-from_recursion (λ (i : ℕ × ℕ). i.0 < all_cells_of r) (initial_of r.initial) (all_below (all_cells_of r) r.initial g.1.1.1.1.1.1.1.0);
    }
