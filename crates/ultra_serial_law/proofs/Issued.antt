-- names, through all phases: an issue has a number that its processing element hasn't given yet
use Rattle.std.proofs.Common.{◌≡◌, ◌≢◌, ℕ, suc, ◌+◌, ◌<◌, ◌≤◌, List, [], ◌∷◌, Bool, false, refl, arith, sym, ◌∙◌, ap, ◌⊎◌, ⊎_elim, inl, inr}
use Rattle.std.specs.{Prelude.{Option, Some, None, IfSome}, List.AllByRecursion}
use Rattle.std.proofs.lemmas.{Bool.{cases_lt, cases_Bool}, List.append-nil}
use Rattle.ultra_msg.specs.declared.{Request.Request, Event.{Event, TheVariants.{Delivered, Served, Combined, Issued}}}
use Rattle.ultra_pni.specs.Interface.{Interface}
use Rattle.ultra_isa.specs.declared.Instr.{Instr}
use Rattle.ultra_isa.proofs.Steps.{SendsInto}
use Rattle.ultra_model.specs.{Places.{places, present}, Phases.{issue_event, issues_after as count_after, step_at, processor_phase}, Balance.{weight, count, total}}
use Rattle.ultra_model.specs.Machine.{Settings, Machine, Element, size, site, element_at}
use Rattle.ultra_model.proofs.{Each.{each-append, each-weaker, each-places, each-present}, Sums.{total_only, total_zero}, Counting.{count-none, is_reference}, Balanced.sends, AtPlaces.element-processor_phase}
use Rattle.ultra_serial_law.specs.{Tree.{NamedRequest, leaves, Kept, trees_after}, Log.LoggedIssue, SerialList.{History, noted, after_event}}
use Rattle.ultra_serial_law.proofs.{Tidy.is_that, Mentions.{sum_of, sum-places, trees_noted, noted_trees}, RequestForest.in_holds, ProcessorForest.{issues_after, issues_noted, noted_issues}}
use Rattle.ultra_serial_law.proofs.Named.{tree_leaves, leaves_in, IsNoIssue, noted_leaves, IsLogged, AreLogged, TreesLogged, IsLoggedAll, noted_logged}

-- a leaf with this name
abbrev pub is_named : ℕ → ℕ → NamedRequest → Bool
is_named p k l = is_reference p k l.pe l.number

-- an issue has a number that was given, and was made before a cycle
pub record IsEarlier (c : Settings) (m : Machine) (n : ℕ) (i : LoggedIssue) : Type 0 where
  pub element : i.pe < size c
  pub number : i.number < (element_at m i.pe).issued
  pub cycle : i.cycle < n

pub record IsRecorded (c : Settings) (m : Machine) (n : ℕ) (h : History) : Type 0 where
  pub once : (p k : ℕ) → leaves_in (is_named p k) h ≤ 1
  pub logged : IsLoggedAll h
  pub issues : AllByRecursion (IsEarlier c m n) h.log.issues

-- ---- events that issue nothing
no_issue_issues : (n : ℕ) (es : List Event) (is : List LoggedIssue) → AllByRecursion IsNoIssue es → issues_noted n es is ≡ is
no_issue_issues n [] is z = refl
no_issue_issues n (Delivered r ∷ es) is z = no_issue_issues n es is z.1
no_issue_issues n (Served k r reply now ∷ es) is z = no_issue_issues n es is z.1
no_issue_issues n (Combined s x a p q f ∷ es) is z = no_issue_issues n es is z.1
no_issue_issues n (Issued r k ∷ es) is z = absurd z.0

pub same_issues : (n : ℕ) (es : List Event) (h : History) → AllByRecursion IsNoIssue es → (noted n es h).log.issues ≡ h.log.issues
same_issues n es h z = noted_issues n es h ∙ no_issue_issues n es h.log.issues z

earlier_machine : (c : Settings) (m k : Machine) (n : ℕ) (i : LoggedIssue) → ((p : ℕ) → p < size c → (element_at k p).issued ≡ (element_at m p).issued) → IsEarlier c m n i → IsEarlier c k n i
earlier_machine c m k n i same e = record { element = e.element; number = rw (same i.pe e.element) e.number; cycle = e.cycle }

pub recorded_noted : (c : Settings) (m k : Machine) (n : ℕ) (es : List Event) (h : History) → AllByRecursion IsNoIssue es → ((p : ℕ) → p < size c → (element_at k p).issued ≡ (element_at m p).issued) → IsRecorded c m n h → IsRecorded c k n (noted n es h)
recorded_noted c m k n es h z same g = record {
  once = λ p j. omega (arith, g.once p j, noted_leaves (is_named p j) n es h z);
  logged = noted_logged n es h g.logged;
  issues = rw (same_issues n es h z) (each-weaker (IsEarlier c m n) (IsEarlier c k n) h.log.issues (λ i e. earlier_machine c m k n i same e) g.issues);
}

-- ---- issues
abbrev pub IsAnIssue : Event → Type 0
IsAnIssue (Delivered r) = ⊥
IsAnIssue (Served k r reply now) = ⊥
IsAnIssue (Combined s x a p q f) = ⊥
IsAnIssue (Issued r n) = Unit {0}

abbrev new_leaf : (NamedRequest → Bool) → Event → ℕ
new_leaf t (Delivered r) = 0
new_leaf t (Served k r reply now) = 0
new_leaf t (Combined s x a p q f) = 0
new_leaf t (Issued r k) = weight (t record { pe = r.pe; number = k; cell = r.cell; op = r.op })

issues_order : (n : ℕ) (es : List Event) (h : History) → AllByRecursion IsAnIssue es → (noted n es h).order ≡ h.order
issues_order n [] h z = refl
issues_order n (Delivered r ∷ es) h z = absurd z.0
issues_order n (Served k r reply now ∷ es) h z = absurd z.0
issues_order n (Combined s x a p q f ∷ es) h z = absurd z.0
issues_order n (Issued r k ∷ es) h z = issues_order n es (after_event n h (Issued r k)) z.1 ∙ append-nil h.order

issues_leaves : (t : NamedRequest → Bool) (es : List Event) (ks : List Kept) → AllByRecursion IsAnIssue es → sum_of (tree_leaves t) (trees_noted es ks) ≡ sum_of (tree_leaves t) ks + sum_of (new_leaf t) es
issues_leaves t [] ks z = omega arith
issues_leaves t (Delivered r ∷ es) ks z = absurd z.0
issues_leaves t (Served k r reply now ∷ es) ks z = absurd z.0
issues_leaves t (Combined s x a p q f ∷ es) ks z = absurd z.0
issues_leaves t (Issued r k ∷ es) ks z = omega (arith, issues_leaves t es (trees_after ks (Issued r k)) z.1)

abbrev pub NewIssue : (P : LoggedIssue → Type 0) → ℕ → Event → Type 0
NewIssue P n (Delivered r) = Unit {0}
NewIssue P n (Served k r reply now) = Unit {0}
NewIssue P n (Combined s x a p q f) = Unit {0}
NewIssue P n (Issued r k) = P record { pe = r.pe; number = k; cell = r.cell; op = r.op; cycle = n }

-- what holds of the issues so far and of each new one
pub each_issue : (P : LoggedIssue → Type 0) (n : ℕ) (es : List Event) (is : List LoggedIssue) → AllByRecursion (NewIssue P n) es → AllByRecursion P is → AllByRecursion P (issues_noted n es is)
each_issue P n [] is z h = h
each_issue P n (Delivered r ∷ es) is z h = each_issue P n es is z.1 h
each_issue P n (Served k r reply now ∷ es) is z h = each_issue P n es is z.1 h
each_issue P n (Combined s x a p q f ∷ es) is z h = each_issue P n es is z.1 h
each_issue P n (Issued r k ∷ es) is z h = each_issue P n es (issues_after n is (Issued r k)) z.1 (each-append P is (record { pe = r.pe; number = k; cell = r.cell; op = r.op; cycle = n } ∷ []) h (z.0, tt))

grows : (n : ℕ) (o : Option Request) → n ≤ count_after n o
grows n None = omega arith
grows n (Some r) = omega arith

module _ (c : Settings) (program : List Instr) (m : Machine) where
  abbrev after : Machine
  after = processor_phase c program m

  abbrev sent_by : ℕ → Option Request
  sent_by p = (step_at c program m p).sent

  abbrev event_at : ℕ → Option Event
  event_at p = issue_event (element_at m p) (sent_by p)

  abbrev all_issued : List Event
  all_issued = present (places (size c) event_at)

  -- what holds of the issue of each processing element
  by_sent : (P : Event → Type 0) (e : Element) (o : Option Request) → ((r : Request) → o ≡ Some r → P (Issued r e.issued)) → IfSome (issue_event e o) P
  by_sent P e None f = tt
  by_sent P e (Some r) f = f r refl

  pub each_issued : (P : Event → Type 0) → ((p : ℕ) (r : Request) → p < size c → sent_by p ≡ Some r → P (Issued r (element_at m p).issued)) → AllByRecursion P all_issued
  each_issued P f = each-present P (places (size c) event_at) (each-places (λ o. IfSome o P) (size c) event_at (λ p h. by_sent P (element_at m p) (sent_by p) (λ r e. f p r h e)))

  own_of : (p : ℕ) (i j : Interface) (o : Option Request) (r : Request) → SendsInto (site c p) c.most_open i j o → o ≡ Some r → r.pe ≡ p
  own_of p i j None r h e = absurd cc
  own_of p i j (Some q) r h e = let same : q ≡ r = cc in ap (λ v. v.pe) (sym same) ∙ h.0

  pub sent_own : (p : ℕ) (r : Request) → sent_by p ≡ Some r → r.pe ≡ p
  sent_own p r e = own_of p (element_at m p).interface (step_at c program m p).interface (sent_by p) r (sends c program m p) e

  pub issued_grows : (p : ℕ) → p < size c → (element_at m p).issued ≤ (element_at after p).issued
  issued_grows p h = rw (element-processor_phase c program m p h) (grows (element_at m p).issued (sent_by p))

  issued_more : (p : ℕ) (r : Request) → p < size c → sent_by p ≡ Some r → (element_at m p).issued < (element_at after p).issued
  issued_more p r h e = rw (element-processor_phase c program m p h) (rw e (omega arith))

  module _ (n : ℕ) (h : History) (g : IsRecorded c m n h) where
    abbrev last : History
    last = noted n all_issued h

    are_issues : AllByRecursion IsAnIssue all_issued
    are_issues = each_issued IsAnIssue (λ p r z e. tt)

    issues_earlier : AllByRecursion (IsEarlier c after (suc n)) last.log.issues
    issues_earlier =
        rw (noted_issues n all_issued h)
        (each_issue (IsEarlier c after (suc n)) n all_issued h.log.issues
        (each_issued (NewIssue (IsEarlier c after (suc n)) n) (λ p r z e.
        let own = sent_own p r e in
        record { element = rw own z; number = rw own (issued_more p r z e); cycle = omega arith }))
        (each-weaker (IsEarlier c m n) (IsEarlier c after (suc n)) h.log.issues (λ i e. record { element = e.element; number = omega (arith, e.number, issued_grows i.pe e.element); cycle = omega (arith, e.cycle) }) g.issues))

    -- a number that is given now was not given before
    unnamed : (p : ℕ) (l : NamedRequest) → IsLogged h.log.issues l → is_named p (element_at m p).issued l ≡ false
    unnamed p l z =
        ⊎_elim (λ e.
        let that = is_that p (element_at m p).issued l.pe l.number e in
        let known = in_holds (IsEarlier c m n) z.0 h.log.issues g.issues z.1 in
        let here : (element_at m z.0.pe).issued ≡ (element_at m p).issued = ap (λ q. (element_at m q).issued) (z.2 ∙ that.0) in
        absurd (omega (arith, known.number, z.3, that.1, here)))
        (λ e. e) (cases_Bool (is_named p (element_at m p).issued l))

    none_named : (p : ℕ) (ls : List NamedRequest) → AreLogged h.log.issues ls → count (is_named p (element_at m p).issued) ls ≡ 0
    none_named p ls z = count-none (is_named p (element_at m p).issued) ls (each-weaker (IsLogged h.log.issues) (λ l. is_named p (element_at m p).issued l ≡ false) ls (λ l v. unnamed p l v) z)

    none_kept : (p : ℕ) (ks : List Kept) → TreesLogged h.log.issues ks → sum_of (tree_leaves (is_named p (element_at m p).issued)) ks ≡ 0
    none_kept p [] z = refl
    none_kept p (k ∷ ks) z = omega (arith, none_named p (leaves k.tree) z.0, none_kept p ks z.1)

    module _ (p k : ℕ) where
      abbrev new_some : Option Event → ℕ
      new_some None = 0
      new_some (Some e) = new_leaf (is_named p k) e

      sum_present : (os : List (Option Event)) → sum_of (new_leaf (is_named p k)) (present os) ≡ sum_of (λ o. new_some o) os
      sum_present [] = refl
      sum_present (None ∷ os) = omega (arith, sum_present os)
      sum_present (Some e ∷ os) = omega (arith, sum_present os)

      all_new : sum_of (new_leaf (is_named p k)) all_issued ≡ total (size c) (λ q. new_some (event_at q))
      all_new = sum_present (places (size c) event_at) ∙ sum-places (λ o. new_some o) (size c) event_at

      new_apart : (q : ℕ) (e : Element) (o : Option Request) → ((r : Request) → o ≡ Some r → r.pe ≡ q) → q ≢ p → new_some (issue_event e o) ≡ 0
      new_apart q e None own apart = refl
      new_apart q e (Some r) own apart =
          ⊎_elim (λ z. absurd (apart (sym (own r refl) ∙ (is_that p k r.pe e.issued z).0))) (λ z. rw z refl) (cases_Bool (is_reference p k r.pe e.issued))

      new_is : (e : Element) (o : Option Request) → (new_some (issue_event e o) ≡ 0) ⊎ ((new_some (issue_event e o) ≤ 1) × (k ≡ e.issued))
      new_is e None = inl refl
      new_is e (Some r) = ⊎_elim (λ z. inr (rw z (omega arith), sym (is_that p k r.pe e.issued z).1)) (λ z. inl (rw z refl)) (cases_Bool (is_reference p k r.pe e.issued))

      new_by : (sum_of (new_leaf (is_named p k)) all_issued ≡ 0) ⊎ ((sum_of (new_leaf (is_named p k)) all_issued ≤ 1) × (k ≡ (element_at m p).issued))
      new_by =
          ⊎_elim (λ hp.
          let only = all_new ∙ total_only (size c) (λ q. new_some (event_at q)) p hp (λ q hq apart. new_apart q (element_at m q) (sent_by q) (λ r e. sent_own q r e) apart) in
          ⊎_elim (λ z. inl (only ∙ z)) (λ z. inr (rw only z.0, z.1)) (new_is (element_at m p) (sent_by p)))
          (λ hp. inl (all_new ∙ total_zero (size c) (λ q. new_some (event_at q)) (λ q hq. new_apart q (element_at m q) (sent_by q) (λ r e. sent_own q r e) (omega (arith, hp, hq)))))
          (cases_lt p (size c))

      leaves_last : leaves_in (is_named p k) last ≡ leaves_in (is_named p k) h + sum_of (new_leaf (is_named p k)) all_issued
      leaves_last =
          let order : count (is_named p k) last.order ≡ count (is_named p k) h.order = ap (λ ls. count (is_named p k) ls) (issues_order n all_issued h are_issues) in
          let trees : sum_of (tree_leaves (is_named p k)) last.trees ≡ sum_of (tree_leaves (is_named p k)) (trees_noted all_issued h.trees) = ap (λ ks. sum_of (tree_leaves (is_named p k)) ks) (noted_trees n all_issued h) in
          omega (arith, order, trees, issues_leaves (is_named p k) all_issued h.trees are_issues)

      once_more : leaves_in (is_named p k) last ≤ 1
      once_more =
          ⊎_elim (λ z. omega (arith, z, leaves_last, g.once p k))
          (λ z.
          let none : leaves_in (is_named p k) h ≡ 0 = rw z.1 (omega (arith, none_named p h.order g.logged.order, none_kept p h.trees g.logged.trees)) in
          omega (arith, z.0, leaves_last, none)) new_by

    pub recorded_issued : IsRecorded c after (suc n) last
    recorded_issued = record { once = once_more; logged = noted_logged n all_issued h g.logged; issues = issues_earlier }
