-- the slots and the order say the same of the trees that are held, as trees come and go
use Rattle.std.proofs.Common.{◌≡◌, ◌≢◌, ⊎_elim, ℕ, ◌+◌, ◌*◌, ◌-◌, ◌<◌, ◌≤◌, List, [], ◌∷◌, ◌++◌, length, drop, set, replicate, true, ◌==◌, ◌&&◌, refl, arith, sym, ap, subst, ◌∙◌, Some, None}
use Rattle.std.specs.Prelude.{slice_get, Option, not, is_some, IfSome, IfNone, ◌↔◌}
use Rattle.std.proofs.lemmas.{Bool.{cases_Bool, Decides.nat_tests}, List.{length-replicate, length-set, length-drop}, Option.slice_get_within}
use Rattle.ultra_model.specs.Balance.{weight}
use Rattle.ultra_serial_law.specs.Tree.{Tree as SerialTree, Kept, kept, is_under, tree_of, without}
use Rattle.ultra_serial_law.specs.Explicable.{held_by}
use Rattle.ultra_tree.specs.{Seen.seen, declared.{trees.Tree.Tree, slots.Slot.{Slot, TheVariants.{Free, Held}}}}
use Rattle.ultra_tree.specs.Slots.{trees_under, trees_in_slot, trees_in_slots, trees_in_row, IsFirstFor, IsFreePlace, AreSlotsOf}
use Rattle.ultra_tree.proofs.{Counted.{equal_test, other_test, equal_of, apart_of}, Rows.{slots_around, slots_beside, slots_changed, slots_free, rows_apart}}
use Rattle.ultra_tree.proofs.Under.{under_here, under_later, under_append, none_under, first_under, under_none, rest_under, rest_others, other_cell, other_pe, held_append, held_rest, held_others}

-- what is true of one identity, of the others of its processing element and of those of another one
by_identity : (P : ℕ → ℕ → Type 0) (p a : ℕ) → P p a → ((b : ℕ) → a ≢ b → P p b) → ((q b : ℕ) → p ≢ q → P q b) → (q b : ℕ) → P q b
by_identity P p a own cells others q b =
    ⊎_elim
    (λ e.
    let at = equal_of p q e in
    ⊎_elim (λ x. let also = equal_of a b x in subst (λ r. P r b) at (subst (λ c. P p c) also own)) (λ x. subst (λ r. P r b) at (cells b (apart_of a b x))) (cases_Bool (a == b)))
    (λ e. others q b (apart_of p q e))
    (cases_Bool (p == q))

by_element : (P : ℕ → Type 0) (p : ℕ) → P p → ((q : ℕ) → p ≢ q → P q) → (q : ℕ) → P q
by_element P p own others q = ⊎_elim (λ e. subst P (equal_of p q e) own) (λ e. others q (apart_of p q e)) (cases_Bool (p == q))

-- ---- no trees
pub slots_none : (A : Type 0) (n m : ℕ) → AreSlotsOf {A = A} n m (replicate (n * m) Free) []
slots_none A n m = record {
  size = length-replicate (n * m) _;
  same = λ p a. ap (λ us. trees_under p a us) (slots_free A p (n * m) (p * m) m);
  count = λ p. ap (λ us. held_by p us) (slots_free A p (n * m) (p * m) m);
  once = λ p a. omega arith;
}

first_of : (xs ys : List SerialTree) (t : SerialTree) → xs ++ ys ≡ [] → xs ++ t ∷ ys ≡ t ∷ []
first_of [] ys t e = ap (λ us. t ∷ us) e
first_of (x ∷ xs) ys t e = absurd cc

both_true : (p a q b : ℕ) → p ≡ q → a ≡ b → (p == q) && (a == b) ≡ true
both_true p a q b d e = grind (arith, nat_tests)

own_identity : (p a : ℕ) (t : SerialTree) → is_under p a (kept p a t) ≡ true
own_identity p a t = both_true p a p a refl refl

-- ---- one tree among those of a row
module _ (p a : ℕ) (us vs : List Kept) (t : SerialTree) where
  pub under_own : trees_under p a (us ++ kept p a t ∷ vs) ≡ trees_under p a us ++ t ∷ trees_under p a vs
  under_own =
      under_append p a us (kept p a t ∷ vs)
      ∙ ap (λ ts. trees_under p a us ++ ts) (under_here p a (kept p a t) vs (own_identity p a t))

  pub under_cells : (b : ℕ) → a ≢ b → trees_under p b (us ++ kept p a t ∷ vs) ≡ trees_under p b (us ++ vs)
  under_cells b ne =
      under_append p b us (kept p a t ∷ vs)
      ∙ (ap (λ ts. trees_under p b us ++ ts) (under_later p b (kept p a t) vs (other_cell p a p b ne (kept p a t) (own_identity p a t)))
      ∙ sym (under_append p b us vs))

  pub held_own : held_by p (us ++ kept p a t ∷ vs) ≡ held_by p (us ++ vs) + 1
  held_own = let one = ap weight (equal_test p p refl) in omega (arith, one, held_append p us (kept p a t ∷ vs), held_append p us vs)

-- ---- a slot of processing element p
module _ {A : Type 0} (m p : ℕ) (ss : List (Slot A)) (i : ℕ) where
  -- what its other slots hold
  abbrev below : List Kept
  below = trees_in_slots p ss (p * m) (i - p * m)

  abbrev above : List Kept
  above = trees_in_slots p ss (i + 1) (p * m + m - (i + 1))

  row_with : (o : Option (Slot A)) → slice_get ss i ≡ o → p * m ≤ i → i < p * m + m → trees_in_row m p ss ≡ below ++ (trees_in_slot p o ++ above)
  row_with o e from to = slots_around p ss (p * m) m i from to ∙ ap (λ x. below ++ (trees_in_slot p x ++ above)) e

  row_changed : (s : Slot A) → p * m ≤ i → i < p * m + m → i < length ss → trees_in_row m p (set ss i s) ≡ below ++ (trees_in_slot p (Some s) ++ above)
  row_changed s from to within = slots_changed p ss (p * m) m i s from to within

  row_other : (s : Slot A) (q : ℕ) → p ≢ q → p * m ≤ i → i < p * m + m → trees_in_row m q (set ss i s) ≡ trees_in_row m q ss
  row_other s q ne from to = slots_beside q ss (q * m) m i s (rows_apart m p q i ne from to)

-- ---- a tree that is found
module _ {A : Type 0} (n m p a : ℕ) (ss : List (Slot A)) (ks : List Kept) (i : ℕ) (are : AreSlotsOf n m ss ks) (at : IsFirstFor m p a ss i) where
  t : SerialTree
  t = seen a at.tree

  us : List Kept
  us = below m p ss i

  vs : List Kept
  vs = above m p ss i

  row : trees_in_row m p ss ≡ us ++ kept p a t ∷ vs
  unfolding t us vs
  row = row_with m p ss i (Some (Held a at.tree)) at.at at.from at.to

  rest : trees_in_row m p (set ss i Free) ≡ us ++ vs
  unfolding t us vs
  rest = row_changed m p ss i Free at.from at.to (slice_get_within ss i (Held a at.tree) at.at)

  under_row : trees_under p a (trees_in_row m p ss) ≡ t ∷ trees_under p a vs
  unfolding t us vs
  under_row = ap (λ ks. trees_under p a ks) row ∙ (under_own p a us vs t ∙ ap (λ ts. ts ++ t ∷ trees_under p a vs) at.before)

  under_rest : trees_under p a (trees_in_row m p (set ss i Free)) ≡ trees_under p a vs
  unfolding t us vs
  under_rest = ap (λ ks. trees_under p a ks) rest ∙ (under_append p a us vs ∙ ap (λ ts. ts ++ trees_under p a vs) at.before)

  pub tree_found : tree_of p a ks ≡ Some (seen a at.tree)
  unfolding t us vs
  tree_found = first_under p a ks t (trees_under p a vs) (sym (are.same p a) ∙ under_row)

  same_own : trees_under p a (trees_in_row m p (set ss i Free)) ≡ trees_under p a (without p a ks)
  same_own = under_rest ∙ (ap (λ ts. drop 1 ts) (sym under_row) ∙ (ap (λ ts. drop 1 ts) (are.same p a) ∙ sym (rest_under p a ks)))

  same_cells : (b : ℕ) → a ≢ b → trees_under p b (trees_in_row m p (set ss i Free)) ≡ trees_under p b (without p a ks)
  same_cells b ne =
      ap (λ ks. trees_under p b ks) rest
      ∙ (sym (under_cells p a us vs t b ne)
      ∙ (ap (λ ks. trees_under p b ks) (sym row) ∙ (are.same p b ∙ sym (rest_others p a p b (other_cell p a p b ne) ks))))

  same_others : (q b : ℕ) → p ≢ q → trees_under q b (trees_in_row m q (set ss i Free)) ≡ trees_under q b (without p a ks)
  same_others q b ne =
      ap (λ ks. trees_under q b ks) (row_other m p ss i Free q ne at.from at.to)
      ∙ (are.same q b ∙ sym (rest_others p a q b (other_pe p a q b ne) ks))

  count_own : held_by p (trees_in_row m p (set ss i Free)) ≡ held_by p (without p a ks)
  unfolding t us vs
  count_own =
      let was = ap (λ ks. held_by p ks) row in
      let is = ap (λ ks. held_by p ks) rest in
      omega (arith, was, is, held_own p a us vs t, are.count p, held_rest p a ks t tree_found)

  count_others : (q : ℕ) → p ≢ q → held_by q (trees_in_row m q (set ss i Free)) ≡ held_by q (without p a ks)
  count_others q ne = ap (λ ks. held_by q ks) (row_other m p ss i Free q ne at.from at.to) ∙ (are.count q ∙ sym (held_others p a q ne ks))

  pub slots_taken : AreSlotsOf n m (set ss i Free) (without p a ks)
  slots_taken = record {
    size = length-set ss i Free ∙ are.size;
    same = by_identity (λ q b. trees_under q b (trees_in_row m q (set ss i Free)) ≡ trees_under q b (without p a ks)) p a same_own same_cells same_others;
    count = by_element (λ q. held_by q (trees_in_row m q (set ss i Free)) ≡ held_by q (without p a ks)) p count_own count_others;
    once = by_identity (λ q b. length (trees_under q b (without p a ks)) ≤ 1) p a (omega (arith, ap (λ ts. length ts) (rest_under p a ks), length-drop 1 (trees_under p a ks), are.once p a)) (λ b ne. omega (arith, ap (λ ts. length ts) (rest_others p a p b (other_cell p a p b ne) ks), are.once p b)) (λ q b ne. omega (arith, ap (λ ts. length ts) (rest_others p a q b (other_pe p a q b ne) ks), are.once q b));
  }

-- nothing is left under the identity of a tree that is taken
short : (ts : List SerialTree) → length ts ≤ 1 → drop 1 ts ≡ []
short [] l = refl
short (t ∷ []) l = refl
short (t ∷ u ∷ ts) l = absurd (omega (arith, l))

pub none_left : {A : Type 0} (n m p a : ℕ) (ss : List (Slot A)) (ks : List Kept) → AreSlotsOf n m ss ks → tree_of p a (without p a ks) ≡ None
none_left n m p a ss ks are = none_under p a (without p a ks) (rest_under p a ks ∙ short (trees_under p a ks) (are.once p a))

-- ---- where no tree is found
pub tree_missed : {A : Type 0} (n m p a : ℕ) (ss : List (Slot A)) (ks : List Kept) → AreSlotsOf n m ss ks → trees_under p a (trees_in_row m p ss) ≡ [] → tree_of p a ks ≡ None
tree_missed n m p a ss ks are e = none_under p a ks (sym (are.same p a) ∙ e)

-- ---- a tree that is put
module _ {A : Type 0} (n m p a : ℕ) (ss : List (Slot A)) (ks : List Kept) (i : ℕ) (are : AreSlotsOf n m ss ks) (at : IsFreePlace m p ss i) (none : tree_of p a ks ≡ None) (tree : Tree A) where
  new : SerialTree
  new = seen a tree

  under : List Kept
  under = below m p ss i

  over : List Kept
  over = above m p ss i

  was_row : trees_in_row m p ss ≡ under ++ over
  unfolding under over
  was_row = row_with m p ss i (Some Free) at.at at.from at.to

  new_row : trees_in_row m p (set ss i (Held a tree)) ≡ under ++ kept p a new ∷ over
  unfolding under over new
  new_row = row_changed m p ss i (Held a tree) at.from at.to (slice_get_within ss i Free at.at)

  was_none : trees_under p a under ++ trees_under p a over ≡ []
  was_none = sym (under_append p a under over) ∙ (ap (λ us. trees_under p a us) (sym was_row) ∙ (are.same p a ∙ under_none p a ks none))

  put_own : trees_under p a (trees_in_row m p (set ss i (Held a tree))) ≡ trees_under p a (kept p a new ∷ ks)
  put_own =
      ap (λ us. trees_under p a us) new_row
      ∙ (under_own p a under over new
      ∙ (first_of (trees_under p a under) (trees_under p a over) new was_none
      ∙ (ap (λ ts. new ∷ ts) (sym (under_none p a ks none)) ∙ sym (under_here p a (kept p a new) ks (own_identity p a new)))))

  put_cells : (b : ℕ) → a ≢ b → trees_under p b (trees_in_row m p (set ss i (Held a tree))) ≡ trees_under p b (kept p a new ∷ ks)
  put_cells b ne =
      ap (λ us. trees_under p b us) new_row
      ∙ (under_cells p a under over new b ne
      ∙ (ap (λ us. trees_under p b us) (sym was_row)
      ∙ (are.same p b ∙ sym (under_later p b (kept p a new) ks (other_cell p a p b ne (kept p a new) (own_identity p a new))))))

  put_others : (q b : ℕ) → p ≢ q → trees_under q b (trees_in_row m q (set ss i (Held a tree))) ≡ trees_under q b (kept p a new ∷ ks)
  put_others q b ne =
      ap (λ us. trees_under q b us) (row_other m p ss i (Held a tree) q ne at.from at.to)
      ∙ (are.same q b ∙ sym (under_later q b (kept p a new) ks (other_pe p a q b ne (kept p a new) (own_identity p a new))))

  more_own : held_by p (trees_in_row m p (set ss i (Held a tree))) ≡ held_by p (kept p a new ∷ ks)
  more_own =
      let was = ap (λ us. held_by p us) was_row in
      let is = ap (λ us. held_by p us) new_row in
      let one = ap weight (equal_test p p refl) in
      omega (arith, was, is, one, held_own p a under over new, are.count p)

  more_others : (q : ℕ) → p ≢ q → held_by q (trees_in_row m q (set ss i (Held a tree))) ≡ held_by q (kept p a new ∷ ks)
  more_others q ne =
      let is = ap (λ us. held_by q us) (row_other m p ss i (Held a tree) q ne at.from at.to) in
      let none = ap weight (other_test p q ne) in
      omega (arith, is, none, are.count q)

  pub slots_put : AreSlotsOf n m (set ss i (Held a tree)) (kept p a (seen a tree) ∷ ks)
  unfolding new
  slots_put = record {
    size = length-set ss i (Held a tree) ∙ are.size;
    same = by_identity (λ q b. trees_under q b (trees_in_row m q (set ss i (Held a tree))) ≡ trees_under q b (kept p a new ∷ ks)) p a put_own put_cells put_others;
    count = by_element (λ q. held_by q (trees_in_row m q (set ss i (Held a tree))) ≡ held_by q (kept p a new ∷ ks)) p more_own more_others;
    once = by_identity (λ q b. length (trees_under q b (kept p a new ∷ ks)) ≤ 1) p a (omega (arith, ap (λ ts. length ts) (under_here p a (kept p a new) ks (own_identity p a new)), ap (λ ts. length ts) (under_none p a ks none))) (λ b ne. omega (arith, ap (λ ts. length ts) (under_later p b (kept p a new) ks (other_cell p a p b ne (kept p a new) (own_identity p a new))), are.once p b)) (λ q b ne. omega (arith, ap (λ ts. length ts) (under_later q b (kept p a new) ks (other_pe p a q b ne (kept p a new) (own_identity p a new))), are.once q b));
  }

-- ---- what the search says
pub held_if_found : {A : Type 0} (n m p a : ℕ) (ss : List (Slot A)) (ks : List Kept) (o : Option ℕ) → AreSlotsOf n m ss ks → IfSome o (λ i. IsFirstFor m p a ss i) → IfNone o (trees_under p a (trees_in_row m p ss) ≡ []) → is_some o ≡ is_some (tree_of p a ks)
held_if_found n m p a ss ks None are f none = ap is_some (sym (tree_missed n m p a ss ks are none))
held_if_found n m p a ss ks (Some i) are f none = ap is_some (sym (tree_found n m p a ss ks i are f))

pub not_some : {T : Type 0} (o : Option T) → (not (is_some o) ≡ true) ↔ (o ≡ None)
not_some None = (λ _. refl, λ _. refl)
not_some (Some x) = (λ e. absurd cc, λ e. absurd cc)
