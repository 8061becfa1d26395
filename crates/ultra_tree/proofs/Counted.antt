-- how many trees are held: at most m for each of n processing elements (PEs), so at most n * m
use Rattle.std.proofs.Common.{◌≡◌, ◌≢◌, ℕ, zero, suc, ◌+◌, ◌*◌, ◌<◌, ◌≤◌, List, [], ◌∷◌, length, true, false, ◌==◌, refl, arith, sym, ap, subst, ⊎_elim}
use Rattle.std.specs.{Prelude.IsSome, List.AllByRecursion}
use Rattle.std.proofs.lemmas.Bool.{cases_Bool, Decides.nat_tests}
use Rattle.ultra_serial_law.specs.Tree.{Tree, Kept, kept, is_under, tree_of, without}
use Rattle.ultra_serial_law.specs.Explicable.{held_by}
use Rattle.ultra_model.specs.Balance.{weight}
use Rattle.ultra_tree.specs.Absorb.{AreWithin}
use Rattle.ultra_serial_law.proofs.Latest.{tree_later, rest_here, rest_later}
use Rattle.ultra_tree.proofs.Kept.{same_identity}

pub equal_test : (a b : ℕ) → a ≡ b → (a == b) ≡ true
equal_test a b e = grind (arith, nat_tests)

pub other_test : (a b : ℕ) → a ≢ b → (a == b) ≡ false
other_test a b e = grind (arith, nat_tests)

pub equal_of : (a b : ℕ) → (a == b) ≡ true → a ≡ b
equal_of a b e = grind (arith, nat_tests)

pub apart_of : (a b : ℕ) → (a == b) ≡ false → a ≢ b
apart_of a b e h = grind (arith, nat_tests)

-- ---- those of the PEs below n
abbrev held_below : ℕ → List Kept → ℕ
held_below zero ks = 0
held_below (suc n) ks = held_by n ks + held_below n ks

none_below : (n : ℕ) → held_below n [] ≡ 0
none_below zero = refl
none_below (suc n) = omega (arith, none_below n)

module _ (k : Kept) (ks : List Kept) where
  beside : (n : ℕ) → n ≤ k.pe → held_below n (k ∷ ks) ≡ held_below n ks
  beside zero l = refl
  beside (suc n) l =
      let e = ap weight (other_test k.pe n (λ h. omega (arith, h, l))) in
      omega (arith, beside n (omega (arith, l)), e)

  among : (n : ℕ) → k.pe < n → held_below n (k ∷ ks) ≡ held_below n ks + 1
  among zero l = absurd (omega (arith, l))
  among (suc n) l =
      ⊎_elim
      (λ h. let e = ap weight h in let at = equal_of k.pe n h in omega (arith, beside n (omega (arith, at)), e))
      (λ h. let e = ap weight h in let ne = apart_of k.pe n h in omega (arith, among n (omega (arith, ne, l)), e))
      (cases_Bool (k.pe == n))

all_below : (n : ℕ) (ks : List Kept) → AllByRecursion (λ (k : Kept). k.pe < n) ks → length ks ≡ held_below n ks
all_below n [] h = sym (none_below n)
all_below n (k ∷ ks) h = omega (arith, all_below n ks h.1, among k ks n h.0)

few_below : (n m : ℕ) (ks : List Kept) → ((p : ℕ) → held_by p ks ≤ m) → held_below n ks ≤ n * m
few_below zero m ks h = omega arith
few_below (suc n) m ks h = omega (arith, h n, few_below n m ks h)

fewer_below : (n m p : ℕ) (ks : List Kept) → ((q : ℕ) → held_by q ks ≤ m) → p < n → held_by p ks < m → held_below n ks < n * m
fewer_below zero m p ks h l f = absurd (omega (arith, l))
fewer_below (suc n) m p ks h l f =
    ⊎_elim
    (λ e. let at = equal_of p n e in let fn = subst (λ q. held_by q ks < m) at f in omega (arith, few_below n m ks h, fn))
    (λ e. let ne = apart_of p n e in omega (arith, h n, fewer_below n m p ks h (omega (arith, ne, l)) f))
    (cases_Bool (p == n))

-- there is room for one tree more of a PE of which fewer than m are held
pub room_for : (n m p : ℕ) (ks : List Kept) → AreWithin n m ks → p < n → held_by p ks < m → length ks < n * m
room_for n m p ks w l f = omega (arith, all_below n ks w.elements, fewer_below n m p ks w.few l f)

-- ---- as trees come and go
pub within_none : (n m : ℕ) → AreWithin n m []
within_none n m = record { elements = tt; few = λ p. omega arith }

pub within_more : (n m p a : ℕ) (t : Tree) (ks : List Kept) → AreWithin n m ks → p < n → held_by p ks < m → AreWithin n m (kept p a t ∷ ks)
within_more n m p a t ks w l f = record {
  elements = (l, w.elements);
  few = λ q.
      ⊎_elim
      (λ h. let e = ap weight h in let at = equal_of p q h in let fq = subst (λ i. held_by i ks < m) at f in omega (arith, e, fq))
      (λ h. let e = ap weight h in omega (arith, e, w.few q))
      (cases_Bool (p == q));
}

elements_rest : (n p a : ℕ) (ks : List Kept) → AllByRecursion (λ (k : Kept). k.pe < n) ks → AllByRecursion (λ (k : Kept). k.pe < n) (without p a ks)
elements_rest n p a [] h = tt
elements_rest n p a (k ∷ ks) h =
    ⊎_elim
    (λ u. subst (λ us. AllByRecursion (λ (k : Kept). k.pe < n) us) (sym (rest_here p a k ks u)) h.1)
    (λ u. subst (λ us. AllByRecursion (λ (k : Kept). k.pe < n) us) (sym (rest_later p a k ks u)) (h.0, elements_rest n p a ks h.1))
    (cases_Bool (is_under p a k))

pub fewer_rest : (q p a : ℕ) (ks : List Kept) → held_by q (without p a ks) ≤ held_by q ks
fewer_rest q p a [] = omega arith
fewer_rest q p a (k ∷ ks) =
    ⊎_elim
    (λ u. let e = ap (λ us. held_by q us) (rest_here p a k ks u) in omega (arith, e))
    (λ u. let e = ap (λ us. held_by q us) (rest_later p a k ks u) in omega (arith, e, fewer_rest q p a ks))
    (cases_Bool (is_under p a k))

pub within_rest : (n m p a : ℕ) (ks : List Kept) → AreWithin n m ks → AreWithin n m (without p a ks)
within_rest n m p a ks w = record { elements = elements_rest n p a ks w.elements; few = λ q. omega (arith, fewer_rest q p a ks, w.few q) }

-- what is taken leaves room
pub one_fewer : (p a : ℕ) (ks : List Kept) → IsSome (tree_of p a ks) → held_by p (without p a ks) < held_by p ks
one_fewer p a [] s = absurd cc
one_fewer p a (k ∷ ks) s =
    ⊎_elim
    (λ u.
    let e = ap (λ us. held_by p us) (rest_here p a k ks u) in
    let at = (same_identity k.pe k.cell p a u).0 in
    let one = ap weight (equal_test k.pe p at) in
    omega (arith, e, one))
    (λ u.
    let e = ap (λ us. held_by p us) (rest_later p a k ks u) in
    omega (arith, e, one_fewer p a ks (subst (λ o. IsSome o) (tree_later p a k ks u) s)))
    (cases_Bool (is_under p a k))

-- whose tree is held is one of the PEs below n
pub element_of : (n p a : ℕ) (ks : List Kept) → AllByRecursion (λ (k : Kept). k.pe < n) ks → IsSome (tree_of p a ks) → p < n
element_of n p a [] h s = absurd cc
element_of n p a (k ∷ ks) h s =
    ⊎_elim
    (λ u. let at = (same_identity k.pe k.cell p a u).0 in let l = h.0 in omega (arith, at, l))
    (λ u. element_of n p a ks h.1 (subst (λ o. IsSome o) (tree_later p a k ks u) s))
    (cases_Bool (is_under p a k))
