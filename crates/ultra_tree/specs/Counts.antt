-- how many leaves the parts of a tree have
use Rattle.std.specs.Prelude.{◌≡◌, ℕ, ◌+◌, Bool, true, ◌&&◌, ◌==◌}
use Rattle.ultra_tree.specs.declared.trees.CountedNode.{CountedNode, Pair'}
use Rattle.ultra_tree.specs.declared.trees.CountedNode as node

module _ {A : Type 0} where
  abbrev pub leaf_count : CountedNode A → ℕ
  leaf_count (node.Leaf p n o) = 1
  leaf_count (Pair' s x p old q new first k l) = leaf_count old + leaf_count new

  -- each pair has the counts of its two parts
  abbrev pub has_right_counts : CountedNode A → Bool
  has_right_counts (node.Leaf p n o) = true
  has_right_counts (Pair' s x p old q new first k l) =
      (k == leaf_count old) && (l == leaf_count new) && has_right_counts old && has_right_counts new

  -- an equation, since a ghost field has one proof at most
  abbrev pub HasRightCounts : CountedNode A → Type 0
  HasRightCounts t = has_right_counts t ≡ true
