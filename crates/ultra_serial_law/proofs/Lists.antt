-- lists by their places, for what a legal list says
use Rattle.std.proofs.Common.{◌≡◌, ℕ, zero, suc, ◌+◌, ◌<◌, ◌≤◌, List, [], ◌∷◌, ◌++◌, Bool, true, refl, arith, ap, inl, inr, map}
use Rattle.std.specs.{Prelude.{Some, slice_get}, List.AllByRecursion}
use Rattle.ultra_model.specs.Balance.{weight, count}
use Rattle.ultra_serial_law.specs.Tree.{NamedRequest}
use Rattle.ultra_msg.specs.Act.{act}
use Rattle.ultra_serial_law.specs.Legal.{Entry as Done, Has, Cells, with_cell, leaf_of_entry, replayed}
use Rattle.ultra_serial_law.proofs.{Explained.IsIn, LaneForest.in_counts}

in_at : {X : Type 0} (xs : List X) (x : X) (k : ℕ) → slice_get xs k ≡ Some x → IsIn x xs
in_at [] x k e = absurd cc
in_at (y ∷ ys) x zero e = let same : y ≡ x = cc in inl same
in_at (y ∷ ys) x (suc k) e = inr (in_at ys x k e)

pub in_has : {X : Type 0} (xs : List X) (x : X) → Has xs x → IsIn x xs
in_has xs x h = in_at xs x h.0 h.1

pub has_in : {X : Type 0} (xs : List X) (x : X) → IsIn x xs → Has xs x
has_in [] x h = absurd h
has_in (y ∷ ys) x (inl e) = (0, ap (λ z. Some z) e)
has_in (y ∷ ys) x (inr h) = let rest = has_in ys x h in (suc rest.0, rest.1)

-- two places of what is counted once are one
pub one_place : {X : Type 0} (t : X → Bool) (xs : List X) (j k : ℕ) (e f : X) → count t xs ≤ 1 → slice_get xs j ≡ Some e → t e ≡ true → slice_get xs k ≡ Some f → t f ≡ true → j ≡ k
one_place t [] j k e f l a b c d = absurd cc
one_place t (x ∷ xs) zero zero e f l a b c d = refl
one_place t (x ∷ xs) zero (suc k) e f l a b c d =
    let same : x ≡ e = cc in
    let here : weight (t x) ≡ 1 = rw (same, b) refl in
    let there = in_counts t f xs (in_at xs f k c) d in
    absurd (omega (arith, l, here, there))
one_place t (x ∷ xs) (suc j) zero e f l a b c d =
    let same : x ≡ f = cc in
    let here : weight (t x) ≡ 1 = rw (same, d) refl in
    let there = in_counts t e xs (in_at xs e j a) b in
    absurd (omega (arith, l, here, there))
one_place t (x ∷ xs) (suc j) (suc k) e f l a b c d =
    let less : count t xs ≤ 1 = omega (arith, l) in
    ap (λ n. suc n) (one_place t xs j k e f less a b c d)

-- a place of the first of two lists
pub get_left : {X : Type 0} (xs ys : List X) (k : ℕ) (x : X) → slice_get xs k ≡ Some x → slice_get (xs ++ ys) k ≡ Some x
get_left [] ys k x e = absurd cc
get_left (z ∷ zs) ys zero x e = e
get_left (z ∷ zs) ys (suc k) x e = get_left zs ys k x e

pub get_before : {X : Type 0} (xs ys : List X) (j k : ℕ) (x e : X) → j < k → slice_get xs k ≡ Some x → slice_get (xs ++ ys) j ≡ Some e → IsIn e xs
get_before [] ys j k x e l a b = absurd cc
get_before (z ∷ zs) ys zero k x e l a b = let same : z ≡ e = cc in inl same
get_before (z ∷ zs) ys (suc j) zero x e l a b = absurd (omega (arith, l))
get_before (z ∷ zs) ys (suc j) (suc k) x e l a b = inr (get_before zs ys j k x e (omega (arith, l)) a b)

-- ---- replays
pub requests_of : (m : Cells) (ls : List NamedRequest) → map (λ (e : Done). leaf_of_entry e) (replayed m ls) ≡ ls
requests_of m [] = refl
requests_of m (l ∷ ls) = ap (λ rest. l ∷ rest) (requests_of (with_cell m l.cell (act l.op (m l.cell)).0) ls)

pub count_replayed : (t : NamedRequest → Bool) (m : Cells) (ls : List NamedRequest) → count (λ (e : Done). t (leaf_of_entry e)) (replayed m ls) ≡ count t ls
count_replayed t m [] = refl
count_replayed t m (l ∷ ls) = ap (λ n. weight (t l) + n) (count_replayed t (with_cell m l.cell (act l.op (m l.cell)).0) ls)

pub each_replayed : (P : NamedRequest → Type 0) (m : Cells) (ls : List NamedRequest) → AllByRecursion P ls → AllByRecursion (λ (e : Done). P (leaf_of_entry e)) (replayed m ls)
each_replayed P m [] h = tt
each_replayed P m (l ∷ ls) h = (h.0, each_replayed P (with_cell m l.cell (act l.op (m l.cell)).0) ls h.1)
