-- the tree that is kept under an identity, and what is kept without it, where the latest tree is of this identity or of another
use Rattle.std.proofs.Common.{◌≡◌, ℕ, List, ◌∷◌, Bool, true, false, ap, Option, Some}
use Rattle.ultra_serial_law.specs.Tree.{Tree, Kept, is_under, tree_of, without}

module _ (p a : ℕ) (k : Kept) (ks : List Kept) where
  tree_at : Bool → Option Tree
  tree_at b = elim b [ true ↦ Some k.tree | false ↦ tree_of p a ks ]

  rest_at : Bool → List Kept
  rest_at b = elim b [ true ↦ ks | false ↦ k ∷ without p a ks ]

  tree_when : (t : Bool) → is_under p a k ≡ t → tree_of p a (k ∷ ks) ≡ tree_at t
  unfolding tree_at
  tree_when t e = ap tree_at e

  rest_when : (t : Bool) → is_under p a k ≡ t → without p a (k ∷ ks) ≡ rest_at t
  unfolding rest_at
  rest_when t e = ap rest_at e

  pub tree_here : is_under p a k ≡ true → tree_of p a (k ∷ ks) ≡ Some k.tree
  unfolding tree_at
  tree_here e = tree_when true e

  pub tree_later : is_under p a k ≡ false → tree_of p a (k ∷ ks) ≡ tree_of p a ks
  unfolding tree_at
  tree_later e = tree_when false e

  pub rest_here : is_under p a k ≡ true → without p a (k ∷ ks) ≡ ks
  unfolding rest_at
  rest_here e = rest_when true e

  pub rest_later : is_under p a k ≡ false → without p a (k ∷ ks) ≡ k ∷ without p a ks
  unfolding rest_at
  rest_later e = rest_when false e
