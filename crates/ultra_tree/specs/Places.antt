-- the leaves of a tree by their places
use Rattle.std.specs.Prelude.{ℕ, zero, suc, ◌+◌, ◌-◌, List, [], ◌∷◌, ◌++◌, max, Bool, true, false, nat_lt, Option, Some}
use Rattle.ultra_tree.specs.{Counts.leaf_count, Text.{leaf_text, opening, closings, order_mark_text}, declared.{listing.Leaf.Leaf, trees.CountedNode.{CountedNode, Pair'}}}
use Rattle.ultra_tree.specs.declared.trees.CountedNode as node

module _ {A : Type 0} where
  -- the leaves in serial order
  abbrev pub leaves_in : CountedNode A → List Leaf
  leaves_in (node.Leaf p n o) = record { pe = p; number = n; op = o } ∷ []
  leaves_in (Pair' s x p old q new true k l) = leaves_in old ++ leaves_in new
  leaves_in (Pair' s x p old q new false k l) = leaves_in new ++ leaves_in old

  -- the depth of a leaf: n where it is in n pairs. Its place is that in the text, where old comes
  -- before new
  abbrev pub depth_at : CountedNode A → ℕ → ℕ
  depth_at (node.Leaf p n o) i = 0
  depth_at (Pair' s x p old q new f k l) i =
      elim (nat_lt i (leaf_count old)) [
        | true ↦ depth_at old i + 1
        | false ↦ depth_at new (i - leaf_count old) + 1
      ]

  -- the greatest depth of the first leaves
  abbrev pub depth_of_first : CountedNode A → ℕ → ℕ
  depth_of_first t zero = 0
  depth_of_first t (suc i) = max (depth_at t i) (depth_of_first t i)

  -- the text of a leaf with what opens before it and closes behind it, where n pairs close behind
  -- the whole tree, and then a mark comes
  abbrev pub piece : CountedNode A → ℕ → ℕ → Option Bool → List ℕ
  piece (node.Leaf p n o) i closing mark = leaf_text p n ++ closings closing ++ order_mark_text mark
  piece (Pair' s x p old q new f k l) i closing mark =
      opening i s x
      ++ elim (nat_lt i (leaf_count old)) [
        | true ↦ piece old i 0 (Some f)
        | false ↦ piece new (i - leaf_count old) (closing + 1) mark
      ]

-- the texts of the places from i on, k of them
abbrev pub pieces : (ℕ → List ℕ) → ℕ → ℕ → List ℕ
pieces f i zero = []
pieces f i (suc k) = f i ++ pieces f (i + 1) k
