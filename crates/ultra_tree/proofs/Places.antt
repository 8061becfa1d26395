-- the counts of a pair, and the place of a leaf in its parts
use Rattle.std.proofs.Common.{◌≡◌, ℕ, ◌<◌, ◌≤◌, true, false, ◌&&◌, ◌==◌, nat_lt, arith}
use Rattle.std.proofs.lemmas.Bool.{eqb-true, Decides.nat_tests}
use Rattle.ultra_model.proofs.Counting.{both_true}
use Rattle.ultra_tree.specs.{Counts.{leaf_count, has_right_counts, HasRightCounts}, declared.trees.CountedNode.{CountedNode, Pair'}}
use Rattle.ultra_tree.specs.declared.trees.CountedNode as node

pub is_below : (a b : ℕ) → a < b → nat_lt a b ≡ true
is_below a b h = grind (arith, nat_tests)

pub is_not_below : (a b : ℕ) → b ≤ a → nat_lt a b ≡ false
is_not_below a b h = grind (arith, nat_tests)

module _ {A : Type 0} where
  pub some_leaf : (t : CountedNode A) → 0 < leaf_count t
  some_leaf (node.Leaf p n o) = omega arith
  some_leaf (Pair' s x p old q new f k l) = omega (arith, some_leaf old)

  pub record HasRightParts (k l : ℕ) (old new : CountedNode A) : Type 0 where
    pub of_old : k ≡ leaf_count old
    pub of_new : l ≡ leaf_count new
    pub in_old : HasRightCounts old
    pub in_new : HasRightCounts new
    pub some_old : 0 < leaf_count old
    pub some_new : 0 < leaf_count new

  pub right_parts : (k l : ℕ) (old new : CountedNode A) → (k == leaf_count old) && (l == leaf_count new) && has_right_counts old && has_right_counts new ≡ true → HasRightParts k l old new
  right_parts k l old new e =
      let three = both_true ((k == leaf_count old) && (l == leaf_count new) && has_right_counts old) (has_right_counts new) e in
      let two = both_true ((k == leaf_count old) && (l == leaf_count new)) (has_right_counts old) three.0 in
      let one = both_true (k == leaf_count old) (l == leaf_count new) two.0 in
      record {
        of_old = eqb-true k (leaf_count old) one.0;
        of_new = eqb-true l (leaf_count new) one.1;
        in_old = two.1;
        in_new = three.1;
        some_old = some_leaf old;
        some_new = some_leaf new;
      }
