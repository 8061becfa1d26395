-- where trees can absorb each of several events at first, they can absorb them in order, if each
-- reference is named at most once
use Rattle.std.proofs.Common.{◌≡◌, ◌≢◌, ℕ, ◌+◌, ◌≤◌, List, [], ◌∷◌, ◌++◌, Bool, true, false, refl, arith, sym, subst, inl, inr, ⊎_elim}
use Rattle.std.specs.{Prelude.{Option, Some, None, IsSome, IfSome}, List.AllByRecursion}
use Rattle.std.proofs.lemmas.Bool.{cases_Bool}
use Rattle.ultra_msg.specs.declared.Event.{Event, TheVariants.{Delivered, Served, Combined, Issued}}
use Rattle.ultra_model.specs.Balance.{weight, count}
use Rattle.ultra_model.proofs.Counting.{is_reference}
use Rattle.ultra_serial_law.specs.Tree.{Tree, Kept, is_under, tree_of, without, with_pair, trees_after}
use Rattle.ultra_serial_law.specs.Explicable.{IsAbsorbable, AreAbsorbable, ServeTrees, served_tree}
use Rattle.ultra_serial_law.proofs.{Tidy.{is_that, that_is}, Explained.IsIn}
use Rattle.ultra_serial_law.proofs.Mentions.{mention, mentions, in_mentions, trees_noted, unmentioned, without_other}

pub trees_noted-append : (es fs : List Event) (ks : List Kept) → trees_noted (es ++ fs) ks ≡ trees_noted fs (trees_noted es ks)
trees_noted-append [] fs ks = refl
trees_noted-append (e ∷ es) fs ks = trees_noted-append es fs (trees_after ks e)

module _ (n m : ℕ) where
  pub absorbable-append : (es fs : List Event) (ks : List Kept) → AreAbsorbable n m ks es → AreAbsorbable n m (trees_noted es ks) fs → AreAbsorbable n m ks (es ++ fs)
  absorbable-append [] fs ks h k = k
  absorbable-append (e ∷ es) fs ks h k = (h.0, absorbable-append es fs (trees_after ks e) h.1 k)

pub serve_trees-append : (P : Tree → Type 0) (es fs : List Event) (ks : List Kept) → ServeTrees P ks es → ServeTrees P (trees_noted es ks) fs → ServeTrees P ks (es ++ fs)
serve_trees-append P [] fs ks h k = k
serve_trees-append P (e ∷ es) fs ks h k = (h.0, serve_trees-append P es fs (trees_after ks e) h.1 k)

-- what holds of each that is in a list
pub each_member : {X : Type 0} (P Q : X → Type 0) (xs : List X) → ((x : X) → IsIn x xs → P x → Q x) → AllByRecursion P xs → AllByRecursion Q xs
each_member P Q [] f h = tt
each_member P Q (x ∷ xs) f h = (f x (inl refl) h.0, each_member P Q xs (λ y i g. f y (inr i) g) h.1)

-- ---- what can come at first, in a list of events
module _ (P : Tree → Type 0) where
  -- the tree of a reference is kept, and it is named at most once
  pub record IsReady (ks : List Kept) (es : List Event) (p a : ℕ) : Type 0 where
    pub tree : IsSome (tree_of p a ks)
    pub once : mentions (is_reference p a) es ≤ 1

  abbrev pub IsFit : List Kept → List Event → Event → Type 0
  IsFit ks es (Delivered r) = Unit {0}
  IsFit ks es (Served k r reply now) = IsReady ks es r.pe r.cell × IfSome (tree_of r.pe r.cell ks) P
  IsFit ks es (Combined s x a p q f) = IsReady ks es p a × IsReady ks es q a
  IsFit ks es (Issued r i) = ⊥

  itself : (p a : ℕ) → weight (is_reference p a p a) ≡ 1
  itself p a = rw (that_is p a) refl

  -- one that is named later isn't named now
  not_now : (ks : List Kept) (e u : Event) (es : List Event) (p a : ℕ) → IsIn u es → 1 ≤ mention (is_reference p a) u → mentions (is_reference p a) (e ∷ es) ≤ 1 → mention (is_reference p a) e ≤ 0
  not_now ks e u es p a h l once = omega (arith, l, once, in_mentions (is_reference p a) u es h)

  same_tree : (ks : List Kept) (e : Event) (p a : ℕ) → mention (is_reference p a) e ≤ 0 → tree_of p a (trees_after ks e) ≡ tree_of p a ks
  same_tree ks e p a l = unmentioned p a (e ∷ []) ks (omega (arith, l))

  ready_later : (ks : List Kept) (e u : Event) (es : List Event) (p a : ℕ) → IsIn u es → 1 ≤ mention (is_reference p a) u → IsReady ks (e ∷ es) p a → IsReady (trees_after ks e) es p a
  ready_later ks e u es p a h l g =
      let none = not_now ks e u es p a h l g.once in
      record { tree = subst (λ o. IsSome o) (sym (same_tree ks e p a none)) g.tree; once = omega (arith, g.once) }

  fit_later : (ks : List Kept) (e : Event) (es : List Event) (u : Event) → IsIn u es → IsFit ks (e ∷ es) u → IsFit (trees_after ks e) es u
  fit_later ks e es (Delivered r) h g = tt
  fit_later ks e es (Served k r reply now) h g =
      let named : 1 ≤ mention (is_reference r.pe r.cell) (Served k r reply now) = omega (arith, itself r.pe r.cell) in
      let none = not_now ks e (Served k r reply now) es r.pe r.cell h named g.0.once in (
        ready_later ks e (Served k r reply now) es r.pe r.cell h named g.0,
        subst (λ o. IfSome o P) (sym (same_tree ks e r.pe r.cell none)) g.1,
      )
  fit_later ks e es (Combined s x a p q f) h g = (
    ready_later ks e (Combined s x a p q f) es p a h (omega (arith, itself p a)) g.0,
    ready_later ks e (Combined s x a p q f) es q a h (omega (arith, itself q a)) g.1,
  )
  fit_later ks e es (Issued r i) h g = g

  twice : (s x a p q : ℕ) (f : Bool) (es : List Event) → mentions (is_reference p a) (Combined s x a p q f ∷ es) ≤ 1 → p ≢ q
  twice s x a p q f es l same =
      let that : weight (is_reference p a q a) ≡ 1 = rw (← same) (itself p a) in
      absurd (omega (arith, l, that, itself p a))

  module _ (n m : ℕ) where
    fit_now : (ks : List Kept) (es : List Event) (e : Event) → IsFit ks (e ∷ es) e → IsAbsorbable n m ks e
    fit_now ks es (Delivered r) g = tt
    fit_now ks es (Served k r reply now) g = g.0.tree
    fit_now ks es (Combined s x a p q f) g = (twice s x a p q f es g.0.once, g.0.tree, g.1.tree)
    fit_now ks es (Issued r i) g = absurd g

    pub fit_absorbable : (es : List Event) (ks : List Kept) → AllByRecursion (IsFit ks es) es → AreAbsorbable n m ks es
    fit_absorbable [] ks h = tt
    fit_absorbable (e ∷ es) ks h = (fit_now ks es e h.0, fit_absorbable es (trees_after ks e) (each_member (IsFit ks (e ∷ es)) (IsFit (trees_after ks e) es) es (λ u i g. fit_later ks e es u i g) h.1))

  fit_serves : (ks : List Kept) (es : List Event) (e : Event) → IsFit ks (e ∷ es) e → IfSome (served_tree ks e) P
  fit_serves ks es (Delivered r) g = tt
  fit_serves ks es (Served k r reply now) g = g.1
  fit_serves ks es (Combined s x a p q f) g = tt
  fit_serves ks es (Issued r i) g = absurd g

  pub fit_served : (es : List Event) (ks : List Kept) → AllByRecursion (IsFit ks es) es → ServeTrees P ks es
  fit_served [] ks h = tt
  fit_served (e ∷ es) ks h = (fit_serves ks es e h.0, fit_served es (trees_after ks e) (each_member (IsFit ks (e ∷ es)) (IsFit (trees_after ks e) es) es (λ u i g. fit_later ks e es u i g) h.1))

-- ---- how many trees are kept, of references that pass a test
module _ (t : ℕ → ℕ → Bool) where
  abbrev pub kept_passing : List Kept → ℕ
  kept_passing ks = count (λ (k : Kept). t k.pe k.cell) ks

  -- what an event takes away, and what it brings
  abbrev pub lost : Event → ℕ
  lost (Delivered r) = 0
  lost (Served k r reply now) = weight (t r.pe r.cell)
  lost (Combined s x a p q f) = weight (t q a)
  lost (Issued r i) = 0

  abbrev pub brought : Event → ℕ
  brought (Delivered r) = 0
  brought (Served k r reply now) = 0
  brought (Combined s x a p q f) = 0
  brought (Issued r i) = weight (t r.pe r.cell)

  one_less_step : (p a : ℕ) (k : Kept) (ks us : List Kept) (b : Bool) → is_under p a k ≡ b → IsSome (elim b [ true ↦ Some k.tree | false ↦ tree_of p a ks ])
      → (IsSome (tree_of p a ks) → kept_passing us + weight (t p a) ≡ kept_passing ks)
      → kept_passing (elim b [ true ↦ ks | false ↦ k ∷ us ]) + weight (t p a) ≡ weight (t k.pe k.cell) + kept_passing ks
  one_less_step p a k ks us true e s h =
      let same = is_that p a k.pe k.cell e in
      let here : weight (t k.pe k.cell) ≡ weight (t p a) = rw (same.0, same.1) refl in
      omega (arith, here)
  one_less_step p a k ks us false e s h = omega (arith, h s)

  pub one_less : (p a : ℕ) (ks : List Kept) → IsSome (tree_of p a ks) → kept_passing (without p a ks) + weight (t p a) ≡ kept_passing ks
  one_less p a [] s = absurd cc
  one_less p a (k ∷ ks) s = one_less_step p a k ks (without p a ks) (is_under p a k) refl s (λ z. one_less p a ks z)

  paired_kept : (s x a p : ℕ) (f : Bool) (ks : List Kept) (o u : Option Tree) → IsSome o → IsSome u → kept_passing (with_pair s x a p f ks o u) ≡ weight (t p a) + kept_passing ks
  paired_kept s x a p f ks None u h k = absurd cc
  paired_kept s x a p f ks (Some o) None h k = absurd cc
  paired_kept s x a p f ks (Some o) (Some u) h k = refl

  module _ (n m : ℕ) where
    pub event_kept : (ks : List Kept) (e : Event) → IsAbsorbable n m ks e → kept_passing (trees_after ks e) + lost e ≡ kept_passing ks + brought e
    event_kept ks (Delivered r) h = refl
    event_kept ks (Served k r reply now) h = omega (arith, one_less r.pe r.cell ks h)
    event_kept ks (Combined s x a p q f) h =
        let apart : is_reference q a p a ≡ false = ⊎_elim (λ z. absurd (h.0 (is_that q a p a z).0)) (λ z. z) (cases_Bool (is_reference q a p a)) in
        let still = without_other q a p a ks apart in
        let there : IsSome (tree_of q a (without p a ks)) = subst (λ o. IsSome o) (sym still) h.2 in
        let one = one_less p a ks h.1 in
        let two = one_less q a (without p a ks) there in
        let made = paired_kept s x a p f (without q a (without p a ks)) (tree_of p a ks) (tree_of q a (without p a ks)) h.1 there in
        omega (arith, one, two, made)
    event_kept ks (Issued r i) h = omega arith
