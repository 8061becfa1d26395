-- the leaves of a tree as a list
use Rattle.std.proofs.Common.{◌≡◌, ℕ, zero, suc, ◌-◌, ◌<◌, ◌≤◌, List, [], ◌∷◌, ◌++◌, length, map, take, true, false, Some, arith, ap, refl, ◌∙◌, length-append}
use Rattle.std.specs.Prelude.{slice_get}
use Rattle.ultra_serial_law.specs.Tree.{leaves}
use Rattle.ultra_tree.specs.{Counts.leaf_count, Places.leaves_in, Seen.{at_cell, seen_counted}, declared.trees.CountedNode.{CountedNode, Pair'}}
use Rattle.ultra_tree.specs.declared.trees.CountedNode as node

-- ---- lists
module _ {X : Type 0} where
  pub get_left : (xs ys : List X) (k : ℕ) → k < length xs → slice_get (xs ++ ys) k ≡ slice_get xs k
  get_left [] ys k h = absurd (omega (arith, h))
  get_left (x ∷ xs) ys zero h = refl
  get_left (x ∷ xs) ys (suc k) h = get_left xs ys k (omega (arith, h))

  pub get_right : (xs ys : List X) (k : ℕ) → length xs ≤ k → slice_get (xs ++ ys) k ≡ slice_get ys (k - length xs)
  get_right [] ys k h = ap (λ j. slice_get ys j) (omega arith)
  get_right (x ∷ xs) ys zero h = absurd (omega (arith, h))
  get_right (x ∷ xs) ys (suc k) h = get_right xs ys k (omega (arith, h)) ∙ ap (λ j. slice_get ys j) (omega arith)

  pub take_next : (xs : List X) (i : ℕ) (x : X) → slice_get xs i ≡ Some x → take (suc i) xs ≡ take i xs ++ x ∷ []
  take_next [] i x e = absurd cc
  take_next (y ∷ ys) zero x e = let same : y ≡ x = cc in ap (λ z. z ∷ []) same
  take_next (y ∷ ys) (suc i) x e = ap (λ zs. y ∷ zs) (take_next ys i x e)

  pub take_whole : (xs : List X) (n : ℕ) → n ≡ length xs → take n xs ≡ xs
  take_whole [] zero h = refl
  take_whole [] (suc n) h = refl
  take_whole (x ∷ xs) zero h = absurd (omega (arith, h))
  take_whole (x ∷ xs) (suc n) h = ap (λ ys. x ∷ ys) (take_whole xs n (omega (arith, h)))

map_append : {X Y : Type 0} (f : X → Y) (xs ys : List X) → map f (xs ++ ys) ≡ map f xs ++ map f ys
map_append f [] ys = refl
map_append f (x ∷ xs) ys = ap (λ zs. f x ∷ zs) (map_append f xs ys)

-- ---- leaves
module _ {A : Type 0} where
  pub length_leaves : (t : CountedNode A) → length (leaves_in t) ≡ leaf_count t
  length_leaves (node.Leaf p n o) = refl
  length_leaves (Pair' s x p old q new true k l) = omega (arith, length-append (leaves_in old) (leaves_in new), length_leaves old, length_leaves new)
  length_leaves (Pair' s x p old q new false k l) = omega (arith, length-append (leaves_in new) (leaves_in old), length_leaves old, length_leaves new)

  pub leaves_seen : (a : ℕ) (t : CountedNode A) → map (at_cell a) (leaves_in t) ≡ leaves (seen_counted a t)
  leaves_seen a (node.Leaf p n o) = refl
  leaves_seen a (Pair' s x p old q new true k l) = map_append (at_cell a) (leaves_in old) (leaves_in new) ∙ rw (leaves_seen a old, leaves_seen a new) refl
  leaves_seen a (Pair' s x p old q new false k l) = map_append (at_cell a) (leaves_in new) (leaves_in old) ∙ rw (leaves_seen a old, leaves_seen a new) refl
