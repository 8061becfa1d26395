-- trees that are held: one that is taken, one that is put last
use Rattle.std.proofs.Common.{◌≡◌, ◌≢◌, ℕ, List, [], ◌∷◌, ◌++◌, true, false, ◌==◌, ◌&&◌, refl, arith, sym, ap, ◌∙◌, ⊎_elim, Some, None}
use Rattle.std.proofs.lemmas.Bool.{cases_Bool, Decides.nat_tests}
use Rattle.ultra_serial_law.specs.Tree.{Tree, Kept, is_under, tree_of, without}
use Rattle.ultra_serial_law.proofs.Latest.{tree_here, tree_later, rest_here, rest_later}

pub same_identity : (p a q b : ℕ) → (p == q) && (a == b) ≡ true → (p ≡ q) × (a ≡ b)
same_identity p a q b e = (grind (arith, nat_tests), grind (arith, nat_tests))

pub other_identity : (p a q b : ℕ) → p ≢ q → (p == q) && (a == b) ≡ false
other_identity p a q b e = grind (arith, nat_tests)

-- ---- one more behind all others
module _ (p a : ℕ) (k : Kept) where
  pub tree_more : (us : List Kept) → tree_of p a us ≡ None → tree_of p a (us ++ k ∷ []) ≡ tree_of p a (k ∷ [])
  tree_more [] e = refl
  tree_more (u ∷ us) e =
      ⊎_elim
      (λ h. let some = sym (tree_here p a u us h) ∙ e in absurd cc)
      (λ h. tree_later p a u (us ++ k ∷ []) h ∙ tree_more us (sym (tree_later p a u us h) ∙ e))
      (cases_Bool (is_under p a u))

  pub tree_same : (us : List Kept) (t : Tree) → tree_of p a us ≡ Some t → tree_of p a (us ++ k ∷ []) ≡ Some t
  tree_same [] t e = absurd cc
  tree_same (u ∷ us) t e =
      ⊎_elim
      (λ h. tree_here p a u (us ++ k ∷ []) h ∙ (sym (tree_here p a u us h) ∙ e))
      (λ h. tree_later p a u (us ++ k ∷ []) h ∙ tree_same us t (sym (tree_later p a u us h) ∙ e))
      (cases_Bool (is_under p a u))

  pub rest_more : (us : List Kept) → tree_of p a us ≡ None → without p a (us ++ k ∷ []) ≡ us ++ without p a (k ∷ [])
  rest_more [] e = refl
  rest_more (u ∷ us) e =
      ⊎_elim
      (λ h. let some = sym (tree_here p a u us h) ∙ e in absurd cc)
      (λ h. rest_later p a u (us ++ k ∷ []) h ∙ ap (λ vs. u ∷ vs) (rest_more us (sym (tree_later p a u us h) ∙ e)))
      (cases_Bool (is_under p a u))

  pub rest_same : (us : List Kept) (t : Tree) → tree_of p a us ≡ Some t → without p a (us ++ k ∷ []) ≡ without p a us ++ k ∷ []
  rest_same [] t e = absurd cc
  rest_same (u ∷ us) t e =
      ⊎_elim
      (λ h. rest_here p a u (us ++ k ∷ []) h ∙ ap (λ vs. vs ++ k ∷ []) (sym (rest_here p a u us h)))
      (λ h. rest_later p a u (us ++ k ∷ []) h ∙ (ap (λ vs. u ∷ vs) (rest_same us t (sym (tree_later p a u us h) ∙ e)) ∙ ap (λ vs. vs ++ k ∷ []) (sym (rest_later p a u us h))))
      (cases_Bool (is_under p a u))

-- ---- the trees of other processing elements stay
pub tree_other : (p q a b : ℕ) → p ≢ q → (ks : List Kept) → tree_of q b (without p a ks) ≡ tree_of q b ks
tree_other p q a b ne [] = refl
tree_other p q a b ne (k ∷ ks) =
    ⊎_elim
    (λ h.
    let at = same_identity k.pe k.cell p a h in
    let apart : is_under q b k ≡ false = other_identity k.pe k.cell q b (λ e. ne (sym at.0 ∙ e)) in
    ap (λ us. tree_of q b us) (rest_here p a k ks h) ∙ sym (tree_later q b k ks apart))
    (λ h.
    ap (λ us. tree_of q b us) (rest_later p a k ks h)
    ∙ ⊎_elim (λ y. tree_here q b k (without p a ks) y ∙ sym (tree_here q b k ks y))
    (λ y. tree_later q b k (without p a ks) y ∙ (tree_other p q a b ne ks ∙ sym (tree_later q b k ks y)))
    (cases_Bool (is_under q b k)))
    (cases_Bool (is_under p a k))
