-- the greatest depth of a leaf is the height
use Rattle.std.proofs.Common.{◌≡◌, ℕ, zero, suc, ◌+◌, ◌-◌, ◌<◌, ◌≤◌, Bool, true, false, nat_lt, arith, ap, ⊎_elim}
use Rattle.std.proofs.lemmas.Bool.{cases_lt}
use Rattle.ultra_serial_law.specs.Tree.{height}
use Rattle.ultra_tree.specs.{Counts.leaf_count, Places.{depth_at, depth_of_first}, Seen.seen_counted, declared.trees.CountedNode.{CountedNode, Pair'}}
use Rattle.ultra_tree.specs.declared.trees.CountedNode as node
use Rattle.ultra_tree.proofs.Places.{is_below, is_not_below}

module _ {A : Type 0} where
  -- ---- a leaf of a pair
  module _ (old new : CountedNode A) (i : ℕ) where
    depth_by : Bool → ℕ
    depth_by b = elim b [ true ↦ depth_at old i + 1 | false ↦ depth_at new (i - leaf_count old) + 1 ]

    pub depth_in_old : i < leaf_count old → elim (nat_lt i (leaf_count old)) [ true ↦ depth_at old i + 1 | false ↦ depth_at new (i - leaf_count old) + 1 ] ≡ depth_at old i + 1
    unfolding depth_by
    depth_in_old h = ap depth_by (is_below i (leaf_count old) h)

    pub depth_in_new : leaf_count old ≤ i → elim (nat_lt i (leaf_count old)) [ true ↦ depth_at old i + 1 | false ↦ depth_at new (i - leaf_count old) + 1 ] ≡ depth_at new (i - leaf_count old) + 1
    unfolding depth_by
    depth_in_new h = ap depth_by (is_not_below i (leaf_count old) h)

  -- ---- no leaf is deeper than the height, and one is as deep
  depth_most : (a : ℕ) (t : CountedNode A) (i : ℕ) → i < leaf_count t → depth_at t i ≤ height (seen_counted a t)
  depth_most a (node.Leaf p n o) i h = omega arith
  depth_most a (Pair' s x p old q new f k l) i h =
      ⊎_elim
      (λ less. let deeper = depth_in_old old new i less in let rest = depth_most a old i less in omega (arith, deeper, rest))
      (λ past. let deeper = depth_in_new old new i past in let rest = depth_most a new (i - leaf_count old) (omega (arith, h, past)) in omega (arith, deeper, rest))
      (cases_lt i (leaf_count old))

  abbrev IsDeepest : ℕ → CountedNode A → ℕ → Type 0
  IsDeepest a t i = (i < leaf_count t) × (height (seen_counted a t) ≤ depth_at t i)

  deepest : (a : ℕ) (t : CountedNode A) → (i : ℕ) × IsDeepest a t i
  deepest a (node.Leaf p n o) = (0, (omega arith, omega arith))
  deepest a (Pair' s x p old q new f k l) =
      let in_old = deepest a old in
      let in_new = deepest a new in
      ⊎_elim
      (λ higher.
      let i = in_new.0 + leaf_count old in
      let deeper = depth_in_new old new i (omega arith) in
      let same : depth_at new (i - leaf_count old) ≡ depth_at new in_new.0 = ap (λ j. depth_at new j) (omega arith) in
      (i, (omega (arith, in_new.1.0), omega (arith, higher, deeper, same, in_new.1.1))))
      (λ higher.
      let deeper = depth_in_old old new in_old.0 in_old.1.0 in
      (in_old.0, (omega (arith, in_old.1.0), omega (arith, higher, deeper, in_old.1.1))))
      (cases_lt (height (seen_counted a old)) (height (seen_counted a new)))

  first_most : (t : CountedNode A) (n b : ℕ) → ((i : ℕ) → i < n → depth_at t i ≤ b) → depth_of_first t n ≤ b
  first_most t zero b h = omega arith
  first_most t (suc n) b h =
      let here = h n (omega arith) in
      let rest = first_most t n b (λ i l. h i (omega (arith, l))) in
      omega (arith, here, rest)

  first_least : (t : CountedNode A) (n i : ℕ) → i < n → depth_at t i ≤ depth_of_first t n
  first_least t zero i h = absurd (omega (arith, h))
  first_least t (suc n) i h =
      ⊎_elim
      (λ l. let rest = first_least t n i l in omega (arith, rest))
      (λ l. let same : depth_at t i ≡ depth_at t n = ap (λ j. depth_at t j) (omega (arith, h, l)) in omega (arith, same))
      (cases_lt i n)

  pub greatest_depth : (a : ℕ) (t : CountedNode A) → depth_of_first t (leaf_count t) ≡ height (seen_counted a t)
  greatest_depth a t =
      let most = first_most t (leaf_count t) (height (seen_counted a t)) (λ i l. depth_most a t i l) in
      let deep = deepest a t in
      let reached = first_least t (leaf_count t) deep.0 deep.1.0 in
      omega (arith, most, reached, deep.1.1)
