-- the tree that an act takes away is the one that is kept as the cycle begins
use Rattle.std.proofs.Common.{◌≡◌, ◌≢◌, ℕ, List, [], ◌∷◌, ◌++◌, Bool, true, false, refl, sym, subst, ◌∙◌, ap, append_assoc}
use Rattle.std.specs.Prelude.{Option, Some, None, IfSome, ◌==◌, ◌&&◌, if◌then◌else◌}
use Rattle.std.specs.List.{AllByRecursion}
use Rattle.std.proofs.lemmas.{List.append-nil, Bool.eqb-true}
use Rattle.ultra_msg.specs.declared.{Request.Request, ReplyMessage.ReplyMessage, Event.{Event, TheVariants.{Delivered, Served, Combined, Issued}}}
use Rattle.ultra_mem.specs.declared.Served.{Served as Act}
use Rattle.ultra_model.specs.{Places.{places, present}, Phases.{delivery, serving}}
use Rattle.ultra_model.proofs.{Each.{each-present, each-places}, Counting.both_true, Neighbours.{itself, other}}
use Rattle.ultra_serial_law.specs.AllAtOnce.{acts_on}
use Rattle.ultra_serial_law.specs.Tree.{Tree, Kept, is_under, tree_of, without, trees_after}
use Rattle.ultra_serial_law.specs.HotSpot.{tree_list, tree_taken, trees_taken}

-- ---- trees of other cells
under_other : (p a q b : ℕ) (k : Kept) → b ≢ a → is_under q b k ≡ true → is_under p a k ≡ false
under_other p a q b k h e =
    let same : k.cell ≡ b = eqb-true k.cell b (both_true (k.pe == q) (k.cell == b) e).1 in
    let apart : (k.cell == a) ≡ false = other k.cell a (λ z. h (sym same ∙ z)) in
    rw apart (and_false (k.pe == p))
  where
    and_false : (d : Bool) → (d && false) ≡ false
    and_false true = refl
    and_false false = refl

without_step : (p a q b : ℕ) (k : Kept) (ks : List Kept) (d : Bool) → is_under q b k ≡ d → b ≢ a → tree_of p a (without q b ks) ≡ tree_of p a ks
    → tree_of p a (elim d [ true ↦ ks | false ↦ k ∷ without q b ks ]) ≡ tree_of p a (k ∷ ks)
without_step p a q b k ks true e h rest =
    let f : Bool → Option Tree = λ z. elim z [ true ↦ Some k.tree | false ↦ tree_of p a ks ] in
    sym (ap f (under_other p a q b k h e))
without_step p a q b k ks false e h rest =
    let f : Option Tree → Option Tree = λ o. elim (is_under p a k) [ true ↦ Some k.tree | false ↦ o ] in
    ap f rest

without_other : (p a q b : ℕ) (ks : List Kept) → b ≢ a → tree_of p a (without q b ks) ≡ tree_of p a ks
without_other p a q b [] h = refl
without_other p a q b (k ∷ ks) h = without_step p a q b k ks (is_under q b k) refl h (without_other p a q b ks h)

module _ (a : ℕ) where
  -- ---- no act takes no tree
  abbrev acts_if : Bool → Request → List Request
  acts_if b q = if b then q ∷ [] else []

  none_taken_if : (b : Bool) (q : Request) (rest : List Request) (ts : List Tree) → acts_if b q ++ rest ≡ [] → (if b then ts else []) ≡ []
  none_taken_if true q rest ts h = absurd cc
  none_taken_if false q rest ts h = refl

  rest_none : (b : Bool) (q : Request) (rest : List Request) → acts_if b q ++ rest ≡ [] → rest ≡ []
  rest_none true q rest h = absurd cc
  rest_none false q rest h = h

  pub none_taken : (ks : List Kept) (es : List Event) → acts_on a es ≡ [] → trees_taken a ks es ≡ []
  none_taken ks [] h = refl
  none_taken ks (Delivered r ∷ es) h = none_taken ks es h
  none_taken ks (Served k q reply now ∷ es) h =
      let first = none_taken_if (q.cell == a) q (acts_on a es) (tree_list (tree_of q.pe q.cell ks)) h in
      let rest = none_taken (trees_after ks (Served k q reply now)) es (rest_none (q.cell == a) q (acts_on a es) h) in
      rw (first, rest) refl
  none_taken ks (Combined s x b p q f ∷ es) h = none_taken (trees_after ks (Combined s x b p q f)) es h
  none_taken ks (Issued r n ∷ es) h = none_taken (trees_after ks (Issued r n)) es h

  -- the trees that are kept after several events
  abbrev pub kept_after : List Kept → List Event → List Kept
  kept_after ks [] = ks
  kept_after ks (e ∷ es) = kept_after (trees_after ks e) es

  pub taken-append : (ks : List Kept) (es fs : List Event) → trees_taken a ks (es ++ fs) ≡ trees_taken a ks es ++ trees_taken a (kept_after ks es) fs
  taken-append ks [] fs = refl
  taken-append ks (e ∷ es) fs =
      let ls = trees_after ks e in
      ap (λ ts. tree_taken a ks e ++ ts) (taken-append ls es fs) ∙ sym (append_assoc (tree_taken a ks e) (trees_taken a ls es) (trees_taken a (kept_after ls es) fs))

  -- ---- one act takes the tree of its request
  -- deliveries and acts come first in a cycle
  abbrev pub IsEarly : Event → Type 0
  IsEarly (Delivered r) = Unit {0}
  IsEarly (Served k r reply now) = Unit {0}
  IsEarly (Combined s x b p q f) = ⊥
  IsEarly (Issued r n) = ⊥

  taken_here : (ks : List Kept) (k : ℕ) (q r : Request) (es : List Event) (b : Bool) → (q.cell == a) ≡ b → acts_if b q ++ acts_on a es ≡ r ∷ []
      → (acts_on a es ≡ r ∷ [] → q.cell ≢ a → trees_taken a (without q.pe q.cell ks) es ≡ tree_list (tree_of r.pe a ks))
      → (if b then tree_list (tree_of q.pe q.cell ks) else []) ++ trees_taken a (without q.pe q.cell ks) es ≡ tree_list (tree_of r.pe a ks)
  taken_here ks k q r es true e h f =
      let same : q ≡ r = cc in
      let none : acts_on a es ≡ [] = cc in
      let cell : q.cell ≡ a = eqb-true q.cell a e in
      let its : tree_of q.pe q.cell ks ≡ tree_of r.pe a ks = rw (cell, same) refl in
      rw (none_taken (without q.pe q.cell ks) es none, its) (append-nil (tree_list (tree_of r.pe a ks)))
  taken_here ks k q r es false e h f = f h (λ z. let here : (a == a) ≡ false = subst (λ v. (v == a) ≡ false) z e in absurd (not_apart here))
    where
      not_apart : (a == a) ≡ false → ⊥
      not_apart h = let yes = itself a in cc

  pub one_taken : (ks : List Kept) (r : Request) (es : List Event) → AllByRecursion IsEarly es → acts_on a es ≡ r ∷ [] → trees_taken a ks es ≡ tree_list (tree_of r.pe a ks)
  one_taken ks r [] early h = absurd cc
  one_taken ks r (Delivered m ∷ es) early h = one_taken ks r es early.1 h
  one_taken ks r (Served k q reply now ∷ es) early h =
      taken_here ks k q r es (q.cell == a) refl h
      (λ rest apart. one_taken (without q.pe q.cell ks) r es early.1 rest ∙ ap (λ o. tree_list o) (without_other r.pe a q.pe q.cell ks apart))
  one_taken ks r (Combined s x b p q f ∷ es) early h = absurd early.0
  one_taken ks r (Issued q n ∷ es) early h = absurd early.0

  -- ---- what comes first
  early_delivery : (o : Option ReplyMessage) → IfSome (delivery o) IsEarly
  early_delivery None = tt
  early_delivery (Some r) = tt

  early_serving : (k : ℕ) (o : Option Act) → IfSome (serving k o) IsEarly
  early_serving k None = tt
  early_serving k (Some s) = tt

  pub early_deliveries : (n : ℕ) (f : ℕ → Option ReplyMessage) → AllByRecursion IsEarly (present (places n (λ p. delivery (f p))))
  early_deliveries n f = each-present IsEarly (places n (λ p. delivery (f p))) (each-places (λ o. IfSome o IsEarly) n (λ p. delivery (f p)) (λ p h. early_delivery (f p)))

  pub early_servings : (n : ℕ) (f : ℕ → Option Act) → AllByRecursion IsEarly (present (places n (λ k. serving k (f k))))
  early_servings n f = each-present IsEarly (places n (λ k. serving k (f k))) (each-places (λ o. IfSome o IsEarly) n (λ k. serving k (f k)) (λ k h. early_serving k (f k)))
