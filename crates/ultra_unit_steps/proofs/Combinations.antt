-- the combinations of two requests that come to a switch, in the order of the positions
use Rattle.std.proofs.Common.{◌≡◌, ℕ, ◌-◌, List, [], ◌∷◌, ◌++◌, true, false, get_or, length, length-append, set, refl, arith, ◌&&◌, ◌||◌, ◌↔◌, is_some, Option}
use Rattle.ultra_unit_steps.proofs.Common.{common_steps, Ports, Switch, Request, Event, SizedLane, present, lane_with, coming_to, combination_by, are_ports_reversed, in_order}
use Rattle.std.proofs.lemmas.List.{append-nil, set-append_right, get_or_at, get_or-append-add}
use Rattle.ultra_unit_steps.specs.Switches.{combinations_of_both}

-- ---- the last two entries of a list change places
pub last_turned : {X : Type 0} (items front : List X) (a b x y : X) (n : ℕ) → items ≡ front ++ a ∷ b ∷ [] → n ≡ length items
    → x ≡ get_or items (n - 2) x → y ≡ get_or items (n - 1) y → set (set items (n - 2) y) (n - 1) x ≡ front ++ b ∷ a ∷ []
last_turned items front a b x y n are count first second =
    grind (arith, length-append, set-append_right front (a ∷ b ∷ []) (length front) (n - 2) y refl, set-append_right front (y ∷ b ∷ []) (length front) (n - 1) x refl, get_or_at front a (b ∷ []) x (n - 2), get_or-append-add front (a ∷ b ∷ []) 1 y)

-- ---- what a request that came first and one that came second have combined
module _ (d s k : ℕ) (w : Switch) (first second : Option Request) (lanes : Ports SizedLane) (zero : lanes.zero ≡ lane_with w.to_mm.zero (coming_to d s 0 first)) (one : lanes.one ≡ lane_with w.to_mm.one (coming_to d s 1 first)) where
  abbrev pub first_combination : Option Event
  first_combination = combination_by d s k w.to_mm first

  abbrev pub second_combination : Option Event
  second_combination = combination_by d s k lanes second

  pub all_in_order : present (in_order (are_ports_reversed d s first second) first_combination second_combination) ≡ combinations_of_both d s k w first second
  all_in_order = rw (zero, one) (grind (arith, append-nil))

  pub combined_alone : (old items : List Event) → items ≡ (old ++ present (first_combination ∷ [])) ++ present (second_combination ∷ []) → is_some first_combination && is_some second_combination ≡ false → items ≡ old ++ combinations_of_both d s k w first second
  combined_alone old items are e = grind (arith, common_steps, all_in_order)

  pub combined_both : (old items now : List Event) → items ≡ (old ++ present (first_combination ∷ [])) ++ present (second_combination ∷ []) → is_some first_combination && is_some second_combination ≡ true
      → ((front : List Event) (x y : Event) → items ≡ front ++ x ∷ y ∷ [] → now ≡ front ++ in_order (are_ports_reversed d s first second) x y) → now ≡ old ++ combinations_of_both d s k w first second
  combined_both old items now are e sorted = grind (arith, common_steps, all_in_order)

  pub none_combined : (is_some first_combination || is_some second_combination ≡ false) ↔ (combinations_of_both d s k w first second ≡ [])
  none_combined = grind (arith, all_in_order)
