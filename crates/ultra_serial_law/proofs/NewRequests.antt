-- a request that is issued isn't kept yet, and there is room for it
use Rattle.std.proofs.Common.{◌≡◌, ◌≢◌, ℕ, ◌+◌, ◌<◌, ◌≤◌, List, [], ◌∷◌, Bool, true, false, ◌==◌, length, refl, arith, ◌∙◌, ap, subst}
use Rattle.std.specs.{Prelude.{Option, Some, None}, List.AllByRecursion}
use Rattle.ultra_msg.specs.declared.{Request.Request, Event.{Event, TheVariants.{Delivered, Served, Combined, Issued}}}
use Rattle.ultra_pni.specs.{declared.OpenCell.OpenCell, Interface.{Interface, is_open}}
use Rattle.ultra_isa.specs.declared.Instr.{Instr}
use Rattle.ultra_isa.proofs.Steps.{SendsInto}
use Rattle.ultra_model.specs.{Places.places, Phases.{issue_event, step_at}, Ranges.AreInRange, Balance.{weight, count, opened_by, all_opened}}
use Rattle.ultra_model.specs.Machine.{Settings, Machine, Element, size, site, element_at}
use Rattle.ultra_model.proofs.{Sums.total_only, Counting.{is_reference, count-all, count-none, count-same}, Neighbours.{itself, other}, Balanced.{none_open, sends}}
use Rattle.ultra_serial_law.specs.{Tree.{Tree, Kept, is_under, tree_of, trees_after}, SerialList.History, Explicable.{held_by, IsAbsorbable, AreAbsorbable}}
use Rattle.ultra_serial_law.proofs.{Tidy.zero_weight, Explained.IsIn, Issued.{each_issued, sent_own}, Absorbing.{each_member, kept_passing}, KeptTrees.{requests_of, requests_within}, Law.{IsSerial, issues_of}}
use Rattle.ultra_serial_law.proofs.Mentions.{mentions, mention_some, present_mentions, in_mentions, sum-places, unmentioned}

-- ---- trees of one processing element, and of one reference
abbrev pub is_of : ℕ → ℕ → ℕ → Bool
is_of p q a = q == p

held_passing : (p : ℕ) (ks : List Kept) → held_by p ks ≡ kept_passing (is_of p) ks
held_passing p [] = refl
held_passing p (k ∷ ks) = omega (arith, held_passing p ks)

none_kept_step : (p a : ℕ) (k : Kept) (ks : List Kept) (b : Bool) → weight b + kept_passing (is_reference p a) ks ≤ 0 → (kept_passing (is_reference p a) ks ≤ 0 → tree_of p a ks ≡ None) → ◌≡◌ {A = Option Tree} (elim b [ true ↦ Some k.tree | false ↦ tree_of p a ks ]) None
none_kept_step p a k ks true l h = absurd (omega (arith, l))
none_kept_step p a k ks false l h = h (omega (arith, l))

none_kept : (p a : ℕ) (ks : List Kept) → kept_passing (is_reference p a) ks ≤ 0 → tree_of p a ks ≡ None
none_kept p a [] l = refl
none_kept p a (k ∷ ks) l = none_kept_step p a k ks (is_under p a k) l (λ z. none_kept p a ks z)

-- ---- issues of different processing elements
module _ (n m : ℕ) where
  abbrev pub IsNew : List Kept → List Event → Event → Type 0
  IsNew ks es (Delivered r) = ⊥
  IsNew ks es (Served k r reply now) = ⊥
  IsNew ks es (Combined s x a p q f) = ⊥
  IsNew ks es (Issued r i) = (tree_of r.pe r.cell ks ≡ None) × (r.pe < n) × (held_by r.pe ks < m) × (mentions (is_of r.pe) es ≤ 1)

  new_now : (ks : List Kept) (es : List Event) (e : Event) → IsNew ks es e → IsAbsorbable n m ks e
  new_now ks es (Delivered r) g = absurd g
  new_now ks es (Served k r reply now) g = absurd g
  new_now ks es (Combined s x a p q f) g = absurd g
  new_now ks es (Issued r i) g = (g.0, g.1, g.2)

  -- an issue of another processing element changes nothing
  new_later : (ks : List Kept) (e : Event) (es : List Event) (u : Event) → IsNew ks (e ∷ es) e → IsIn u es → IsNew ks (e ∷ es) u → IsNew (trees_after ks e) es u
  new_later ks (Delivered r) es u z h g = absurd z
  new_later ks (Served k r reply now) es u z h g = absurd z
  new_later ks (Combined s x a p q f) es u z h g = absurd z
  new_later ks (Issued r i) es (Delivered v) z h g = absurd g
  new_later ks (Issued r i) es (Served k v reply now) z h g = absurd g
  new_later ks (Issued r i) es (Combined s x a p q f) z h g = absurd g
  new_later ks (Issued r i) es (Issued v j) z h g =
      let here : weight (is_of v.pe v.pe v.cell) ≡ 1 = rw (itself v.pe) refl in
      let there = in_mentions (is_of v.pe) (Issued v j) es h in
      let once = g.3 in
      let apart : (r.pe == v.pe) ≡ false = zero_weight (r.pe == v.pe) (omega (arith, here, there, once)) in
      let unnamed : mentions (is_reference v.pe v.cell) (Issued r i ∷ []) ≤ 0 = rw apart (omega arith) in
      let held = ap weight apart in (
        unmentioned v.pe v.cell (Issued r i ∷ []) ks unnamed ∙ g.0,
        g.1,
        omega (arith, held, g.2),
        omega (arith, once),
      )

  pub new_absorbable : (es : List Event) (ks : List Kept) → AllByRecursion (IsNew ks es) es → AreAbsorbable n m ks es
  new_absorbable [] ks h = tt
  new_absorbable (e ∷ es) ks h = (new_now ks (e ∷ es) e h.0, new_absorbable es (trees_after ks e) (each_member (IsNew ks (e ∷ es)) (IsNew (trees_after ks e) es) es (λ u i g. new_later ks e es u h.0 i g) h.1))

-- ---- open cells
each_of : {X : Type 0} (P : X → Type 0) (xs : List X) → ((x : X) → P x) → AllByRecursion P xs
each_of P [] f = tt
each_of P (x ∷ xs) f = (f x, each_of P xs f)

module _ (c : Settings) (range : AreInRange c) (program : List Instr) (n : ℕ) (m : Machine) (h : History) (w : IsSerial c n m h) (few : (t : ℕ → ℕ → Bool) → kept_passing t h.trees ≤ requests_of t c m) where
  abbrev issues : List Event
  issues = issues_of c range program n m

  abbrev opened : ℕ → List OpenCell
  opened p = (element_at m p).interface.opened

  kept_opened : (t : ℕ → ℕ → Bool) → kept_passing t h.trees ≤ all_opened t c m
  kept_opened t = omega (arith, few t, requests_within t c m, w.sound.balance.balanced t)

  apart_reference : (p a q b : ℕ) → q ≢ p → is_reference p a q b ≡ false
  apart_reference p a q b d = rw (other q p d) refl

  opened_here : (p a : ℕ) → p < size c → all_opened (is_reference p a) c m ≡ count (λ (o : OpenCell). o.cell == a) (opened p)
  opened_here p a hp =
      total_only (size c) (λ q. opened_by (is_reference p a) q (element_at m q)) p hp
      (λ q hq d. count-none (λ (o : OpenCell). is_reference p a q o.cell) (opened q) (each_of _ (opened q) (λ o. apart_reference p a q o.cell d)))
      ∙ count-same (λ (o : OpenCell). is_reference p a p o.cell) (λ (o : OpenCell). o.cell == a) (opened p) (each_of _ (opened p) (λ o. rw (itself p) refl))

  opened_by_it : (p : ℕ) → p < size c → all_opened (is_of p) c m ≡ length (opened p)
  opened_by_it p hp =
      total_only (size c) (λ q. opened_by (is_of p) q (element_at m q)) p hp
      (λ q hq d. count-none (λ (o : OpenCell). is_of p q o.cell) (opened q) (each_of _ (opened q) (λ o. other q p d)))
      ∙ count-all (λ (o : OpenCell). is_of p p o.cell) (opened p) (each_of _ (opened p) (λ o. itself p))

  free_if : (p : ℕ) (i j : Interface) (o : Option Request) (r : Request) → SendsInto (site c p) c.most_open i j o → o ≡ Some r → (is_open r.cell i.opened ≡ false) × (length i.opened < c.most_open)
  free_if p i j None r g e = absurd cc
  free_if p i j (Some q) r g e = let same : q ≡ r = cc in subst (λ (v : Request). (is_open v.cell i.opened ≡ false) × (length i.opened < c.most_open)) same (g.2, g.3)

  -- ---- each processing element issues at most once
  issued_apart : (p q : ℕ) (e : Element) (o : Option Request) → ((r : Request) → o ≡ Some r → r.pe ≡ q) → q ≢ p → mention_some (is_of p) (issue_event e o) ≡ 0
  issued_apart p q e None own d = refl
  issued_apart p q e (Some r) own d = let not_it : (r.pe == p) ≡ false = rw (own r refl) (other q p d) in rw not_it refl

  at_most_one : (b : Bool) → weight b ≤ 1
  at_most_one true = omega arith
  at_most_one false = omega arith

  issued_once : (p : ℕ) (e : Element) (o : Option Request) → mention_some (is_of p) (issue_event e o) ≤ 1
  issued_once p e None = omega arith
  issued_once p e (Some r) = at_most_one (r.pe == p)

  issues_once : (p : ℕ) → p < size c → mentions (is_of p) issues ≤ 1
  issues_once p hp =
      let at : ℕ → Option Event = λ q. issue_event (element_at m q) (step_at c program m q).sent in
      let all = present_mentions (is_of p) (places (size c) at) in
      let sum = sum-places (mention_some (is_of p)) (size c) at in
      let only = total_only (size c) (λ q. mention_some (is_of p) (at q)) p hp (λ q hq d. issued_apart p q (element_at m q) (step_at c program m q).sent (λ r e. sent_own c program m q r e) d) in
      omega (arith, all, sum, only, issued_once p (element_at m p) (step_at c program m p).sent)

  is_new : (p : ℕ) (r : Request) (i : ℕ) → p < size c → (step_at c program m p).sent ≡ Some r → IsNew (size c) c.most_open h.trees issues (Issued r i)
  is_new p r i hp e =
      let own = sent_own c program m p r e in
      let free = free_if p (element_at m p).interface (step_at c program m p).interface (step_at c program m p).sent r (sends c program m p) e in
      let none = none_open r.cell (opened p) free.0 in
      let within = free.1 in
      let some : tree_of p r.cell h.trees ≡ None = none_kept p r.cell h.trees (omega (arith, kept_opened (is_reference p r.cell), opened_here p r.cell hp, none)) in
      let room : held_by p h.trees < c.most_open = omega (arith, held_passing p h.trees, kept_opened (is_of p), opened_by_it p hp, within) in (
        rw own some,
        rw own hp,
        rw own room,
        rw own (issues_once p hp),
      )

  pub issues_absorbable : AreAbsorbable (size c) c.most_open h.trees issues
  issues_absorbable = new_absorbable (size c) c.most_open issues h.trees (each_issued c program m (IsNew (size c) c.most_open h.trees issues) (λ p r hp e. is_new p r (element_at m p).issued hp e))
