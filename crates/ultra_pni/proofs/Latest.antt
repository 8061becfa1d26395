-- the requests that wait are for the cells that were opened last
use Rattle.std.proofs.Common.{◌≡◌, ℕ, zero, suc, ◌+◌, ◌-◌, ◌<◌, ◌≤◌, length, get_or, List, [], ◌∷◌, take, drop, Bool, true, false, refl, sym, ap, ◌∙◌, arith, rules, inl, inr}
use Rattle.std.specs.{Prelude.{IsSome, map, ◌==◌}, List.{remove, position, position_or_len}}
use Rattle.std.proofs.lemmas.List.{length-take-le, length-map, drop_at, drop-drop, drop-map, take-map, map-append, get_or-drop, get_or-map}
use Rattle.std.proofs.lemmas.{List.{Edits.length-remove, Folds.{list_any_at, Any-from_list_any}, Sums.fails_before_first}, Bool.{false≢true, cases_lt, lt-ltb}}
use Rattle.ultra_msg.specs.declared.Request.{Request}
use Rattle.ultra_pni.specs.declared.OpenCell.{OpenCell}
use Rattle.ultra_pni.specs.Interface.{Interface, open_cells, pending_cells, is_open, is_pending, target_of}

-- what is behind an item isn't changed by its removal
drop-remove : {X : Type 0} (xs : List X) (i m : ℕ) → i ≤ length xs → drop (i + m) (remove xs i) ≡ drop (suc i + m) xs
drop-remove xs i m within =
    sym (drop-drop m i (remove xs i))
    ∙ (ap (λ ys. drop m ys) (drop_at (take i xs) (drop (suc i) xs) i (length-take-le i xs within)) ∙ drop-drop m (suc i) xs)

map-remove : {X Y : Type 0} (f : X → Y) (xs : List X) (i : ℕ) → map f (remove xs i) ≡ remove (map f xs) i
map-remove f xs i = rw (map-append, take-map, drop-map) refl

abbrev pub is_of : ℕ → OpenCell → Bool
is_of a o = o.cell == a

-- a pending request is at each place of the cells opened last
pending_at : (i : Interface) (n place : ℕ) (o : OpenCell) (r : Request) → pending_cells i ≡ drop n (open_cells i) → n ≤ place → place < length i.opened → place - n < length i.pending
    → (get_or i.pending (place - n) r).cell ≡ (get_or i.opened place o).cell
pending_at i n place o r latest after within there =
    let at : n + (place - n) ≡ place = omega (arith, after) in
    sym (get_or-map (λ (r : Request). r.cell) i.pending (place - n) r 0 there)
    ∙ (ap (λ cs. get_or cs (place - n) 0) latest
    ∙ (get_or-drop n (open_cells i) (place - n) 0
    ∙ (ap (λ k. get_or (open_cells i) k 0) at ∙ get_or-map (λ (o : OpenCell). o.cell) i.opened place o 0 within)))

abbrev before_latest : Interface → ℕ
before_latest i = length i.opened - length i.pending

-- so a cell for which none is pending is before them
pub stands_before : (i : Interface) (a place : ℕ) (o : OpenCell) (r : Request) → length i.pending ≤ length i.opened → pending_cells i ≡ drop (before_latest i) (open_cells i)
    → place < length i.opened → ((get_or i.opened place o).cell == a) ≡ true → is_pending a i.pending ≡ false → place < before_latest i
stands_before i a place o r few latest within is none =
    let n = before_latest i in
    elim (cases_lt place n) [
      | inl before ↦ before
      | inr after ↦
          let there : place - n < length i.pending = omega (arith, few, within, after) in
          let here = pending_at i n place o r latest after within there in
          absurd (false≢true (sym none ∙ list_any_at (λ (r : Request). r.cell == a) i.pending (place - n) r there (ap (λ c. c == a) here ∙ is)))
    ]

-- the cell that is closed is no pending one, and the others stay the last
pub latest-remove : (i : Interface) (place : ℕ) → length i.pending ≤ length i.opened → place < before_latest i → pending_cells i ≡ drop (before_latest i) (open_cells i)
    → pending_cells i ≡ drop (length (remove i.opened place) - length i.pending) (map (λ (o : OpenCell). o.cell) (remove i.opened place))
latest-remove i place few before latest =
    let shorter = length-remove i.opened place (omega (arith, before)) in
    let more : length (remove i.opened place) - length i.pending ≡ place + (before_latest i - suc place) = omega (arith, shorter, before, few) in
    let n : suc place + (before_latest i - suc place) ≡ before_latest i = omega (arith, before) in
    let long = length-map i.opened (λ (o : OpenCell). o.cell) in
    latest
    ∙ (ap (λ k. drop k (open_cells i)) (sym n)
    ∙ (sym (drop-remove (open_cells i) place (before_latest i - suc place) (omega (arith, long, before)))
    ∙ (ap (λ cs. drop (place + (before_latest i - suc place)) cs) (sym (map-remove (λ (o : OpenCell). o.cell) i.opened place)) ∙ ap (λ k. drop k (map (λ (o : OpenCell). o.cell) (remove i.opened place))) (sym more))))

-- an open cell has a place
pub has_place : (a : ℕ) (os : List OpenCell) → is_open a os ≡ true → IsSome (position (is_of a) os)
has_place a os is =
    let found = Any-from_list_any (is_of a) os is in
    let before : position_or_len (is_of a) os < length os =
    elim (cases_lt (position_or_len (is_of a) os) (length os)) [
      | inl before ↦ before
      | inr after ↦ absurd (false≢true (sym (fails_before_first (is_of a) os found.0 found.1 (omega (arith, found.2, after))) ∙ rw found.3 found.4))
    ] in
    rw (lt-ltb (position_or_len (is_of a) os) (length os) before) (search rules)

-- the first pending request leaves
leave_step : (os : List OpenCell) (rs : List Request) → length rs ≤ length os → map (λ (r : Request). r.cell) rs ≡ drop (length os - length rs) (map (λ (o : OpenCell). o.cell) os)
    → map (λ (r : Request). r.cell) (drop 1 rs) ≡ drop (length os - length (drop 1 rs)) (map (λ (o : OpenCell). o.cell) os)
leave_step os [] few latest = latest
leave_step os (r ∷ rs) few latest =
    let next : length os - length rs ≡ length os - length (r ∷ rs) + 1 = omega (arith, few) in
    ap (λ cs. drop 1 cs) latest
    ∙ (drop-drop 1 (length os - length (r ∷ rs)) (map (λ (o : OpenCell). o.cell) os) ∙ ap (λ k. drop k (map (λ (o : OpenCell). o.cell) os)) (sym next))

pub latest-leave : (i : Interface) → length i.pending ≤ length i.opened → pending_cells i ≡ drop (before_latest i) (open_cells i)
    → map (λ (r : Request). r.cell) (drop 1 i.pending) ≡ drop (length i.opened - length (drop 1 i.pending)) (open_cells i)
latest-leave i few latest = leave_step i.opened i.pending few latest

-- the register of the first open cell of this number
pub target_at : (a : ℕ) (os : List OpenCell) (place : ℕ) (o : OpenCell) → place < length os → is_of a (get_or os place o) ≡ true → ((k : ℕ) → k < place → is_of a (get_or os k o) ≡ false)
    → target_of a os ≡ (get_or os place o).target
target_at a [] place d within is others = absurd (omega (arith, within))
target_at a (o ∷ os) zero d within is others = let here : is_of a o ≡ true = is in rw (target_of, here) refl
target_at a (o ∷ os) (suc place) d within is others =
    let other : is_of a o ≡ false = others 0 (omega arith) in
    rw (target_of, other) (target_at a os place d (omega (arith, within)) is (λ k before. others (suc k) (omega (arith, before))))
