-- every leaf was issued, and no name occurs twice among the leaves that were served and those of
-- the kept trees
use Rattle.std.proofs.Common.{◌≡◌, ℕ, ◌+◌, ◌≤◌, List, [], ◌∷◌, ◌++◌, Bool, true, false, refl, arith, inl}
use Rattle.std.specs.{Prelude.{Option, Some, None}, List.AllByRecursion}
use Rattle.ultra_msg.specs.declared.Event.{Event, TheVariants.{Delivered, Served, Combined, Issued}}
use Rattle.ultra_model.specs.Balance.{count}
use Rattle.ultra_model.proofs.{Each.{each-append, each-weaker}, Counting.count-append}
use Rattle.ultra_serial_law.specs.Tree.{Tree, pair, NamedRequest, leaves, Kept, is_under, tree_of, without, with_pair, leaves_of}
use Rattle.ultra_serial_law.specs.{Log.LoggedIssue, SerialList.{History, noted, after_event}}
use Rattle.ultra_serial_law.proofs.{Explained.{IsIn, in-append, in-append_right}, Mentions.sum_of}

-- ---- how often a test passes among the leaves of a history
abbrev pub tree_leaves : (NamedRequest → Bool) → Kept → ℕ
tree_leaves t k = count t (leaves k.tree)

abbrev pub leaves_in : (NamedRequest → Bool) → History → ℕ
leaves_in t h = count t h.order + sum_of (tree_leaves t) h.trees

-- an event that issues nothing
abbrev pub IsNoIssue : Event → Type 0
IsNoIssue (Delivered r) = Unit {0}
IsNoIssue (Served k r reply now) = Unit {0}
IsNoIssue (Combined s x a p q f) = Unit {0}
IsNoIssue (Issued r n) = ⊥

module _ (t : NamedRequest → Bool) where
  pair_leaves : (s x : ℕ) (o n : Tree) (f : Bool) → count t (leaves (pair s x o n f)) ≡ count t (leaves o) + count t (leaves n)
  pair_leaves s x o n true = count-append t (leaves o) (leaves n)
  pair_leaves s x o n false = omega (arith, count-append t (leaves n) (leaves o))

  taken_step : (p a : ℕ) (k : Kept) (ks : List Kept) (b : Bool) → sum_of (tree_leaves t) (without p a ks) + count t (leaves_of (tree_of p a ks)) ≡ sum_of (tree_leaves t) ks
      → sum_of (tree_leaves t) (elim b [ true ↦ ks | false ↦ k ∷ without p a ks ]) + count t (leaves_of (elim b [ true ↦ Some k.tree | false ↦ tree_of p a ks ])) ≡ tree_leaves t k + sum_of (tree_leaves t) ks
  taken_step p a k ks true h = omega arith
  taken_step p a k ks false h = omega (arith, h)

  -- the leaves of the tree that is taken away
  pub taken : (p a : ℕ) (ks : List Kept) → sum_of (tree_leaves t) (without p a ks) + count t (leaves_of (tree_of p a ks)) ≡ sum_of (tree_leaves t) ks
  taken p a [] = omega arith
  taken p a (k ∷ ks) = taken_step p a k ks (is_under p a k) (taken p a ks)

  paired_leaves : (s x a p : ℕ) (f : Bool) (ks : List Kept) (o n : Option Tree) → sum_of (tree_leaves t) (with_pair s x a p f ks o n) ≤ sum_of (tree_leaves t) ks + count t (leaves_of o) + count t (leaves_of n)
  paired_leaves s x a p f ks None n = omega arith
  paired_leaves s x a p f ks (Some o) None = omega arith
  paired_leaves s x a p f ks (Some o) (Some n) = omega (arith, pair_leaves s x o n f)

  event_leaves : (n : ℕ) (h : History) (e : Event) → IsNoIssue e → leaves_in t (after_event n h e) ≤ leaves_in t h
  event_leaves n h (Delivered r) z = omega (arith, count-append t h.order [])
  event_leaves n h (Served k r reply now) z = omega (arith, count-append t h.order (leaves_of (tree_of r.pe r.cell h.trees)), taken r.pe r.cell h.trees)
  event_leaves n h (Combined s x a p q f) z =
      omega (arith, count-append t h.order [], taken p a h.trees, taken q a (without p a h.trees), paired_leaves s x a p f (without q a (without p a h.trees)) (tree_of p a h.trees) (tree_of q a (without p a h.trees)))
  event_leaves n h (Issued r k) z = absurd z

  pub noted_leaves : (n : ℕ) (es : List Event) (h : History) → AllByRecursion IsNoIssue es → leaves_in t (noted n es h) ≤ leaves_in t h
  noted_leaves n [] h z = omega arith
  noted_leaves n (e ∷ es) h z = omega (arith, noted_leaves n es (after_event n h e) z.1, event_leaves n h e z.0)

-- ---- each leaf was issued
abbrev pub IsLogged : List LoggedIssue → NamedRequest → Type 0
IsLogged is l = (i : LoggedIssue) × IsIn i is × (i.pe ≡ l.pe) × (i.number ≡ l.number) × (i.cell ≡ l.cell) × (i.op ≡ l.op)

logged_more : (is js : List LoggedIssue) (l : NamedRequest) → IsLogged is l → IsLogged (is ++ js) l
logged_more is js l h = (h.0, in-append h.0 is js h.1, h.2, h.3, h.4, h.5)

abbrev pub AreLogged : List LoggedIssue → List NamedRequest → Type 0
AreLogged is ls = AllByRecursion (IsLogged is) ls

abbrev pub TreesLogged : List LoggedIssue → List Kept → Type 0
TreesLogged is ks = AllByRecursion (λ (k : Kept). AreLogged is (leaves k.tree)) ks

pair_logged : (is : List LoggedIssue) (s x : ℕ) (o n : Tree) (f : Bool) → AreLogged is (leaves o) → AreLogged is (leaves n) → AreLogged is (leaves (pair s x o n f))
pair_logged is s x o n true h g = each-append (IsLogged is) (leaves o) (leaves n) h g
pair_logged is s x o n false h g = each-append (IsLogged is) (leaves n) (leaves o) g h

found_by : (is : List LoggedIssue) (p a : ℕ) (k : Kept) (ks : List Kept) (b : Bool) → TreesLogged is (k ∷ ks) → AreLogged is (leaves_of (tree_of p a ks)) → AreLogged is (leaves_of (elim b [ true ↦ Some k.tree | false ↦ tree_of p a ks ]))
found_by is p a k ks true h g = h.0
found_by is p a k ks false h g = g

found_logged : (is : List LoggedIssue) (p a : ℕ) (ks : List Kept) → TreesLogged is ks → AreLogged is (leaves_of (tree_of p a ks))
found_logged is p a [] h = tt
found_logged is p a (k ∷ ks) h = found_by is p a k ks (is_under p a k) h (found_logged is p a ks h.1)

left_by : (is : List LoggedIssue) (p a : ℕ) (k : Kept) (ks us : List Kept) (b : Bool) → TreesLogged is (k ∷ ks) → TreesLogged is us → TreesLogged is (elim b [ true ↦ ks | false ↦ k ∷ us ])
left_by is p a k ks us true h g = h.1
left_by is p a k ks us false h g = (h.0, g)

left_logged : (is : List LoggedIssue) (p a : ℕ) (ks : List Kept) → TreesLogged is ks → TreesLogged is (without p a ks)
left_logged is p a [] h = tt
left_logged is p a (k ∷ ks) h = left_by is p a k ks (without p a ks) (is_under p a k) h (left_logged is p a ks h.1)

paired_logged : (is : List LoggedIssue) (s x a p : ℕ) (f : Bool) (ks : List Kept) (o n : Option Tree) → TreesLogged is ks → AreLogged is (leaves_of o) → AreLogged is (leaves_of n) → TreesLogged is (with_pair s x a p f ks o n)
paired_logged is s x a p f ks None n h g k = h
paired_logged is s x a p f ks (Some o) None h g k = h
paired_logged is s x a p f ks (Some o) (Some n) h g k = (pair_logged is s x o n f g k, h)

pub record IsLoggedAll (h : History) : Type 0 where
  pub order : AreLogged h.log.issues h.order
  pub trees : TreesLogged h.log.issues h.trees

event_logged : (n : ℕ) (h : History) (e : Event) → IsLoggedAll h → IsLoggedAll (after_event n h e)
event_logged n h (Delivered r) g = record { order = each-append (IsLogged h.log.issues) h.order [] g.order tt; trees = g.trees }
event_logged n h (Served k r reply now) g = record {
  order = each-append (IsLogged h.log.issues) h.order (leaves_of (tree_of r.pe r.cell h.trees)) g.order (found_logged h.log.issues r.pe r.cell h.trees g.trees);
  trees = left_logged h.log.issues r.pe r.cell h.trees g.trees;
}
event_logged n h (Combined s x a p q f) g =
    let one = left_logged h.log.issues p a h.trees g.trees in
    record {
      order = each-append (IsLogged h.log.issues) h.order [] g.order tt;
      trees = paired_logged h.log.issues s x a p f (without q a (without p a h.trees)) (tree_of p a h.trees) (tree_of q a (without p a h.trees))
          (left_logged h.log.issues q a (without p a h.trees) one) (found_logged h.log.issues p a h.trees g.trees) (found_logged h.log.issues q a (without p a h.trees) one);
    }
event_logged n h (Issued r k) g =
    let is = h.log.issues in
    let i : LoggedIssue = record { pe = r.pe; number = k; cell = r.cell; op = r.op; cycle = n } in
    record {
      order = each-append (IsLogged (is ++ i ∷ [])) h.order [] (each-weaker (IsLogged is) (IsLogged (is ++ i ∷ [])) h.order (λ l z. logged_more is (i ∷ []) l z) g.order) tt;
      trees = (
        ((i, in-append_right i is (i ∷ []) (inl refl), refl, refl, refl, refl), tt),
        each-weaker (λ (u : Kept). AreLogged is (leaves u.tree)) (λ (u : Kept). AreLogged (is ++ i ∷ []) (leaves u.tree)) h.trees (λ u z. each-weaker (IsLogged is) (IsLogged (is ++ i ∷ [])) (leaves u.tree) (λ l v. logged_more is (i ∷ []) l v) z) g.trees,
      );
    }

pub noted_logged : (n : ℕ) (es : List Event) (h : History) → IsLoggedAll h → IsLoggedAll (noted n es h)
noted_logged n [] h g = g
noted_logged n (e ∷ es) h g = noted_logged n es (after_event n h e) (event_logged n h e g)
