-- the trees under an identity, and how many are those of a processing element
use Rattle.std.proofs.Common.{◌≡◌, ◌≢◌, ℕ, ◌+◌, List, [], ◌∷◌, ◌++◌, drop, true, false, ◌==◌, ◌&&◌, Bool, refl, arith, sym, ap, ◌∙◌, ⊎_elim, Some, None}
use Rattle.std.proofs.lemmas.Bool.{cases_Bool}
use Rattle.ultra_serial_law.specs.{Tree.{Tree, Kept, is_under, tree_of, without}, Explicable.held_by}
use Rattle.ultra_model.specs.Balance.{weight}
use Rattle.ultra_serial_law.proofs.Latest.{tree_here, tree_later, rest_here, rest_later}
use Rattle.ultra_tree.specs.Slots.{trees_under}
use Rattle.ultra_tree.proofs.{Kept.same_identity, Counted.{equal_test, other_test}}

module _ (p a : ℕ) (k : Kept) (ks : List Kept) where
  under_at : Bool → List Tree
  under_at b = elim b [ true ↦ k.tree ∷ trees_under p a ks | false ↦ trees_under p a ks ]

  pub under_here : is_under p a k ≡ true → trees_under p a (k ∷ ks) ≡ k.tree ∷ trees_under p a ks
  unfolding under_at
  under_here e = ap under_at e

  pub under_later : is_under p a k ≡ false → trees_under p a (k ∷ ks) ≡ trees_under p a ks
  unfolding under_at
  under_later e = ap under_at e

pub under_append : (p a : ℕ) (ks us : List Kept) → trees_under p a (ks ++ us) ≡ trees_under p a ks ++ trees_under p a us
under_append p a [] us = refl
under_append p a (k ∷ ks) us =
    ⊎_elim
    (λ h. under_here p a k (ks ++ us) h ∙ (ap (λ vs. k.tree ∷ vs) (under_append p a ks us) ∙ ap (λ vs. vs ++ trees_under p a us) (sym (under_here p a k ks h))))
    (λ h. under_later p a k (ks ++ us) h ∙ (under_append p a ks us ∙ ap (λ vs. vs ++ trees_under p a us) (sym (under_later p a k ks h))))
    (cases_Bool (is_under p a k))

-- ---- the first of them is the tree of the identity
pub none_under : (p a : ℕ) (ks : List Kept) → trees_under p a ks ≡ [] → tree_of p a ks ≡ None
none_under p a [] e = refl
none_under p a (k ∷ ks) e =
    ⊎_elim
    (λ h. let some = sym (under_here p a k ks h) ∙ e in absurd cc)
    (λ h. tree_later p a k ks h ∙ none_under p a ks (sym (under_later p a k ks h) ∙ e))
    (cases_Bool (is_under p a k))

pub first_under : (p a : ℕ) (ks : List Kept) (t : Tree) (ts : List Tree) → trees_under p a ks ≡ t ∷ ts → tree_of p a ks ≡ Some t
first_under p a [] t ts e = absurd cc
first_under p a (k ∷ ks) t ts e =
    ⊎_elim
    (λ h. let here = sym (under_here p a k ks h) ∙ e in tree_here p a k ks h ∙ cc)
    (λ h. tree_later p a k ks h ∙ first_under p a ks t ts (sym (under_later p a k ks h) ∙ e))
    (cases_Bool (is_under p a k))

pub under_none : (p a : ℕ) (ks : List Kept) → tree_of p a ks ≡ None → trees_under p a ks ≡ []
under_none p a [] e = refl
under_none p a (k ∷ ks) e =
    ⊎_elim
    (λ h. let some = sym (tree_here p a k ks h) ∙ e in absurd cc)
    (λ h. under_later p a k ks h ∙ under_none p a ks (sym (tree_later p a k ks h) ∙ e))
    (cases_Bool (is_under p a k))

-- ---- without the tree of an identity
pub rest_under : (p a : ℕ) (ks : List Kept) → trees_under p a (without p a ks) ≡ drop 1 (trees_under p a ks)
rest_under p a [] = refl
rest_under p a (k ∷ ks) =
    ⊎_elim
    (λ h. ap (λ us. trees_under p a us) (rest_here p a k ks h) ∙ ap (λ ts. drop 1 ts) (sym (under_here p a k ks h)))
    (λ h.
    ap (λ us. trees_under p a us) (rest_later p a k ks h)
    ∙ (under_later p a k (without p a ks) h ∙ (rest_under p a ks ∙ ap (λ ts. drop 1 ts) (sym (under_later p a k ks h)))))
    (cases_Bool (is_under p a k))

pub and_false : (b : Bool) → b && false ≡ false
and_false true = refl
and_false false = refl

-- an identity other than (p, a)
pub rest_others : (p a q b : ℕ) → ((k : Kept) → is_under p a k ≡ true → is_under q b k ≡ false) → (ks : List Kept) → trees_under q b (without p a ks) ≡ trees_under q b ks
rest_others p a q b ne [] = refl
rest_others p a q b ne (k ∷ ks) =
    ⊎_elim
    (λ h. ap (λ us. trees_under q b us) (rest_here p a k ks h) ∙ sym (under_later q b k ks (ne k h)))
    (λ h.
    ap (λ us. trees_under q b us) (rest_later p a k ks h)
    ∙ ⊎_elim
    (λ y. under_here q b k (without p a ks) y ∙ (ap (λ ts. k.tree ∷ ts) (rest_others p a q b ne ks) ∙ sym (under_here q b k ks y)))
    (λ y. under_later q b k (without p a ks) y ∙ (rest_others p a q b ne ks ∙ sym (under_later q b k ks y)))
    (cases_Bool (is_under q b k)))
    (cases_Bool (is_under p a k))

pub other_cell : (p a q b : ℕ) → a ≢ b → (k : Kept) → is_under p a k ≡ true → is_under q b k ≡ false
other_cell p a q b ne k h = let at = same_identity k.pe k.cell p a h in let e = other_test k.cell b (λ x. ne (sym at.1 ∙ x)) in ap (λ t. (k.pe == q) && t) e ∙ and_false (k.pe == q)

pub other_pe : (p a q b : ℕ) → p ≢ q → (k : Kept) → is_under p a k ≡ true → is_under q b k ≡ false
other_pe p a q b ne k h = let at = same_identity k.pe k.cell p a h in let e = other_test k.pe q (λ x. ne (sym at.0 ∙ x)) in ap (λ t. t && (k.cell == b)) e

-- ---- how many
pub held_append : (p : ℕ) (ks us : List Kept) → held_by p (ks ++ us) ≡ held_by p ks + held_by p us
held_append p [] us = omega arith
held_append p (k ∷ ks) us = omega (arith, held_append p ks us)

pub held_rest : (p a : ℕ) (ks : List Kept) (t : Tree) → tree_of p a ks ≡ Some t → held_by p ks ≡ held_by p (without p a ks) + 1
held_rest p a [] t e = absurd cc
held_rest p a (k ∷ ks) t e =
    ⊎_elim
    (λ h.
    let r = ap (λ us. held_by p us) (rest_here p a k ks h) in
    let one = ap weight (equal_test k.pe p (same_identity k.pe k.cell p a h).0) in
    omega (arith, r, one))
    (λ h.
    let r = ap (λ us. held_by p us) (rest_later p a k ks h) in
    omega (arith, r, held_rest p a ks t (sym (tree_later p a k ks h) ∙ e)))
    (cases_Bool (is_under p a k))

pub held_others : (p a q : ℕ) → p ≢ q → (ks : List Kept) → held_by q (without p a ks) ≡ held_by q ks
held_others p a q ne [] = refl
held_others p a q ne (k ∷ ks) =
    ⊎_elim
    (λ h.
    let r = ap (λ us. held_by q us) (rest_here p a k ks h) in
    let none = ap weight (other_test k.pe q (λ x. ne (sym (same_identity k.pe k.cell p a h).0 ∙ x))) in
    omega (arith, r, none))
    (λ h.
    let r = ap (λ us. held_by q us) (rest_later p a k ks h) in
    omega (arith, r, held_others p a q ne ks))
    (cases_Bool (is_under p a k))
