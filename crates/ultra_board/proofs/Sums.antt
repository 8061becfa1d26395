-- sums over the views of all seats
use Rattle.std.proofs.Common.{◌≡◌, ℕ, zero, suc, ◌+◌, ◌≤◌, List, [], ◌∷◌, ◌++◌, true, false, set, refl, sym, ap, arith}
use Rattle.std.specs.Prelude.{if◌then◌else◌}
use lib.ListN.{get_elem?}
use mathlib.Core.Option.{some, some-injective, some-ne-none}
use Rattle.ultra_board.specs.{declared.rule.View.View, View.{total_over_views, spent_places}}

-- one view changes
pub total_over_views-set : (f : View → ℕ) (vs : List View) (place : ℕ) (v w : View) → get_elem? vs place ≡ some v → total_over_views f (set vs place w) + f v ≡ total_over_views f vs + f w
total_over_views-set f [] place v w e = absurd (some-ne-none v (sym e))
total_over_views-set f (u ∷ us) zero v w e = let same = ap f (some-injective u v e) in omega arith
total_over_views-set f (u ∷ us) (suc place) v w e = let rest = total_over_views-set f us place v w e in omega arith

-- one view changes, and not in what is added up
pub total_over_views-set_same : (f : View → ℕ) (vs : List View) (place : ℕ) (v w : View) → get_elem? vs place ≡ some v → f w ≡ f v → total_over_views f (set vs place w) ≡ total_over_views f vs
total_over_views-set_same f vs place v w e same = let t = total_over_views-set f vs place v w e in omega arith

-- one more view
pub total_over_views-push : (f : View → ℕ) (vs : List View) (w : View) → total_over_views f (vs ++ w ∷ []) ≡ total_over_views f vs + f w
total_over_views-push f [] w = omega arith
total_over_views-push f (v ∷ vs) w = let rest = total_over_views-push f vs w in omega arith

pub total_over_views-le : (f g : View → ℕ) (vs : List View) → ((v : View) → f v ≤ g v) → total_over_views f vs ≤ total_over_views g vs
total_over_views-le f g [] h = omega arith
total_over_views-le f g (v ∷ vs) h = let first = h v in let rest = total_over_views-le f g vs h in omega arith

-- the same where it is known of the views of the list alone
pub total_over_views-le_each : (f g : View → ℕ) (vs : List View) → ((place : ℕ) (v : View) → get_elem? vs place ≡ some v → f v ≤ g v) → total_over_views f vs ≤ total_over_views g vs
total_over_views-le_each f g [] h = omega arith
total_over_views-le_each f g (v ∷ vs) h = let first = h 0 v refl in let rest = total_over_views-le_each f g vs (λ place w e. h (suc place) w e) in omega arith

-- no view has more than all have
pub one-le-total_over_views : (f : View → ℕ) (vs : List View) (place : ℕ) (v : View) → get_elem? vs place ≡ some v → f v ≤ total_over_views f vs
one-le-total_over_views f [] place v e = absurd (some-ne-none v (sym e))
one-le-total_over_views f (u ∷ us) zero v e = let same = ap f (some-injective u v e) in omega arith
one-le-total_over_views f (u ∷ us) (suc place) v e = let rest = one-le-total_over_views f us place v e in omega arith

nothing_left : (f : View → ℕ) (vs : List View) → ((place : ℕ) (u : View) → get_elem? vs place ≡ some u → u.places ≡ 0 → f u ≡ 0) → total_over_views (λ (v : View). v.places) vs ≡ 0 → total_over_views f vs ≡ 0
nothing_left f [] g h = refl
nothing_left f (u ∷ us) g h = let first = g 0 u refl (omega arith) in let rest = nothing_left f us (λ place w e. g (suc place) w e) (omega arith) in omega arith

-- where one view has all places, and a view without places adds nothing, a sum is that view's part
pub total_over_views-alone : (f : View → ℕ) (vs : List View) (place : ℕ) (v : View) → get_elem? vs place ≡ some v → ((other : ℕ) (u : View) → get_elem? vs other ≡ some u → u.places ≡ 0 → f u ≡ 0) → total_over_views (λ (v : View). v.places) vs ≡ v.places → total_over_views f vs ≡ f v
total_over_views-alone f [] place v e g h = absurd (some-ne-none v (sym e))
total_over_views-alone f (u ∷ us) zero v e g h =
    let same = ap f (some-injective u v e) in
    let same_places = ap (λ (v : View). v.places) (some-injective u v e) in
    let rest = nothing_left f us (λ other w e. g (suc other) w e) (omega arith) in
    omega arith
total_over_views-alone f (u ∷ us) (suc place) v e g h =
    let mine = one-le-total_over_views (λ (v : View). v.places) us place v e in
    let first = g 0 u refl (omega arith) in
    let rest = total_over_views-alone f us place v e (λ other w e. g (suc other) w e) (omega arith) in
    omega arith

pub spent_places-le : (v : View) → spent_places v ≤ v.places
spent_places-le v = elim v.spent as (λ b. (if b then v.places else 0) ≤ v.places) [ true ↦ omega arith | false ↦ omega arith ]

-- a seat that isn't spent has its places beside those of the spent ones
pub spent_places-beside : (vs : List View) (place : ℕ) (v : View) → get_elem? vs place ≡ some v → v.spent ≡ false → total_over_views spent_places vs + v.places ≤ total_over_views (λ (v : View). v.places) vs
spent_places-beside vs place v e unspent =
    let w : View = record v { spent = true } in
    let spent_now = total_over_views-set spent_places vs place v w e in
    let same = total_over_views-set (λ (v : View). v.places) vs place v w e in
    let le = total_over_views-le spent_places (λ (v : View). v.places) (set vs place w) spent_places-le in
    let none : spent_places v ≡ 0 = rw unspent refl in
    omega arith

pub total_over_views-plus : (f g : View → ℕ) (vs : List View) → total_over_views (λ v. f v + g v) vs ≡ total_over_views f vs + total_over_views g vs
total_over_views-plus f g [] = omega arith
total_over_views-plus f g (v ∷ vs) = let rest = total_over_views-plus f g vs in omega arith
