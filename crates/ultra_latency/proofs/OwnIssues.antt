-- the issues of one processing element: a cycle adds what it sent, at most one
use Rattle.std.proofs.Common.{ℕ, zero, suc, List, [], ◌∷◌, ◌++◌, ◌≡◌, ◌≢◌, ◌+◌, ◌<◌, ◌≤◌, inl, inr, Bool, true, false, refl, sym, ap, ◌∙◌, append-nil, append_assoc, arith}
use Rattle.std.proofs.lemmas.{Bool.{cases_lt, Decides.nat_tests}, List.{Concat.flat_map-append, Elements.filter-append}}
use Rattle.std.specs.Prelude.{Option, Some, None, IfSome, map, ◌==◌}
use Rattle.std.specs.List.{AllByRecursion, filter, flat_map, range_with_len}
use Rattle.ultra_msg.specs.declared.{Request.Request, ReplyMessage.ReplyMessage, Event.{Event, TheVariants.{Delivered, Served, Combined, Issued}}}
use Rattle.ultra_pni.specs.Interface.{Interface}
use Rattle.ultra_isa.specs.declared.Instr.{Instr}
use Rattle.ultra_isa.proofs.Steps.{SendsInto, step_is}
use Rattle.ultra_model.specs.{Machine.{Settings, Element, size, site, element_at}, Places.{places, present}, Phases.{after, delivery, issue_event, step_at}}
use Rattle.ultra_model.proofs.Each.{each-append, each-present, each-places, each-weaker}
use Rattle.ultra_serial_law.specs.{declared.records.LoggedIssue.LoggedIssue, SerialList.{history, noted}}
use Rattle.ultra_serial_law.proofs.ProcessorForest.{issues_noted, noted_issues}
use Rattle.ultra_latency.proofs.Rows.{IsNeutral}
use Rattle.ultra_latency.proofs.CycleEvents.{brought, deliveries, others, issues, sent, requested, events_are, others_neutral}

-- ---- what events show, of which each processing element has at most one
module _ {X : Type 0} (show : Event → List X) where
  abbrev pub shown_if : Option Event → List X
  shown_if None = []
  shown_if (Some e) = show e

  shown_first : (o : Option Event) (os : List (Option Event)) → flat_map show (present (o ∷ os)) ≡ shown_if o ++ flat_map show (present os)
  shown_first None os = refl
  shown_first (Some e) os = refl

  module _ (event : ℕ → Option Event) where
    none_in : (n a : ℕ) → ((q : ℕ) → a ≤ q → q < a + n → shown_if (event q) ≡ []) → flat_map show (present (map event (range_with_len a n))) ≡ []
    none_in zero a none = refl
    none_in (suc n) a none = shown_first (event a) (map event (range_with_len (a + 1) n)) ∙ rw (none a (omega arith) (omega arith)) (none_in n (a + 1) (λ q from to. none q (omega arith) (omega arith)))

    -- where one alone shows anything, they show what it does
    one_in : (p n a : ℕ) → a ≤ p → p < a + n → ((q : ℕ) → q < a + n → q ≢ p → shown_if (event q) ≡ []) → flat_map show (present (map event (range_with_len a n))) ≡ shown_if (event p)
    one_in p zero a from to none = absurd (omega arith)
    one_in p (suc n) a from to none = elim (cases_lt a p) [
      | inl later ↦
          shown_first (event a) (map event (range_with_len (a + 1) n))
          ∙ rw (none a (omega arith) (omega arith)) (one_in p n (a + 1) (omega arith) (omega arith) (λ q within other. none q (omega arith) other))
      | inr here ↦
          let same : p ≡ a = omega arith in
          let rest = none_in n (a + 1) (λ q first last. none q (omega arith) (omega arith)) in
          shown_first (event a) (map event (range_with_len (a + 1) n)) ∙ rw (rest, same) (append-nil (shown_if (event a)))
    ]

    pub one_shown : (n p : ℕ) → p < n → ((q : ℕ) → q < n → q ≢ p → shown_if (event q) ≡ []) → flat_map show (present (places n event)) ≡ shown_if (event p)
    unfolding places
    one_shown n p h none = one_in p n 0 (omega arith) (omega arith) (λ q within other. none q (omega arith) other)

-- ---- the issues of a processing element, and what an event adds to them
abbrev pub is_of_pe : ℕ → LoggedIssue → Bool
is_of_pe p i = i.pe == p

abbrev pub own : ℕ → List LoggedIssue → List LoggedIssue
own p is = filter (is_of_pe p) is

abbrev pub logged_as : ℕ → Request → ℕ → LoggedIssue
logged_as n r k = record { pe = r.pe; number = k; cell = r.cell; op = r.op; cycle = n }

abbrev pub added : ℕ → ℕ → Event → List LoggedIssue
added n p (Delivered r) = []
added n p (Served k r v now) = []
added n p (Combined s x a old new f) = []
added n p (Issued r k) = own p (logged_as n r k ∷ [])

pub own_noted : (n p : ℕ) (es : List Event) (is : List LoggedIssue) → own p (issues_noted n es is) ≡ own p is ++ flat_map (added n p) es
own_noted n p [] is = sym (append-nil (own p is))
own_noted n p (Delivered r ∷ es) is = own_noted n p es is
own_noted n p (Served k r v now ∷ es) is = own_noted n p es is
own_noted n p (Combined s x a old new f ∷ es) is = own_noted n p es is
own_noted n p (Issued r k ∷ es) is =
    own_noted n p es (is ++ logged_as n r k ∷ [])
    ∙ ap (λ xs. xs ++ flat_map (added n p) es) (filter-append (is_of_pe p) is (logged_as n r k ∷ []))
    ∙ append_assoc (own p is) (own p (logged_as n r k ∷ [])) (flat_map (added n p) es)

abbrev pub IsNoIssue : Event → Type 0
IsNoIssue (Delivered r) = Unit {0}
IsNoIssue (Served k r v now) = Unit {0}
IsNoIssue (Combined s x a p q f) = Unit {0}
IsNoIssue (Issued r n) = ⊥

neutral_is : (e : Event) → IsNeutral e → IsNoIssue e
neutral_is (Delivered r) h = tt
neutral_is (Served k r v now) h = tt
neutral_is (Combined s x a p q f) h = tt
neutral_is (Issued r n) h = h

some_delivery : (o : Option ReplyMessage) → IfSome (delivery o) IsNoIssue
some_delivery None = tt
some_delivery (Some r) = tt

none_added : (n p : ℕ) (es : List Event) → AllByRecursion IsNoIssue es → flat_map (added n p) es ≡ []
none_added n p [] all = refl
none_added n p (Delivered r ∷ es) all = none_added n p es all.1
none_added n p (Served k r v now ∷ es) all = none_added n p es all.1
none_added n p (Combined s x a old new f ∷ es) all = none_added n p es all.1
none_added n p (Issued r k ∷ es) all = absurd all.0

-- what a processing element sends, as it is logged
abbrev pub logged_if : ℕ → ℕ → Option Request → List LoggedIssue
logged_if n k None = []
logged_if n k (Some r) = logged_as n r k ∷ []

mine : (n p : ℕ) (e : Element) (o : Option Request) → IfSome o (λ (r : Request). r.pe ≡ p) → shown_if (added n p) (issue_event e o) ≡ logged_if n e.issued o
mine n p e None own = refl
mine n p e (Some r) own = grind (arith, nat_tests, own)

not_mine : (n p q : ℕ) → q ≢ p → (e : Element) (o : Option Request) → IfSome o (λ (r : Request). r.pe ≡ q) → shown_if (added n p) (issue_event e o) ≡ []
not_mine n p q other e None own = refl
not_mine n p q other e (Some r) own = grind (arith, nat_tests, own)

module _ (c : Settings) (program : List Instr) (n : ℕ) where
  -- the step of a processing element, from its interface as the request phase left it
  pub step_sends : (p : ℕ) → SendsInto (site c p) c.most_open (element_at (requested c program n) p).interface (step_at c program (requested c program n) p).interface (sent c program n p)
  step_sends p =
      let e = element_at (requested c program n) p in
      (step_is (site c p) c.most_open e.interface program e.core).into

  own_from : (p : ℕ) (i j : Interface) (o : Option Request) → SendsInto (site c p) c.most_open i j o → IfSome o (λ (r : Request). r.pe ≡ p)
  own_from p i j None h = tt
  own_from p i j (Some r) h = h.0

  pub sent_own : (p : ℕ) → IfSome (sent c program n p) (λ (r : Request). r.pe ≡ p)
  sent_own p = own_from p _ _ (sent c program n p) (step_sends p)

  -- the number of its next issue
  abbrev pub next_number : ℕ → ℕ
  next_number p = (element_at (requested c program n) p).issued

  issues_add : (p : ℕ) → p < size c → flat_map (added n p) (issues c program n) ≡ logged_if n (next_number p) (sent c program n p)
  issues_add p h =
      one_shown (added n p) (λ q. issue_event (element_at (requested c program n) q) (sent c program n q)) (size c) p h (λ q within other. not_mine n p q other (element_at (requested c program n) q) (sent c program n q) (sent_own q))
      ∙ mine n p (element_at (requested c program n) p) (sent c program n p) (sent_own p)

  pub first : AllByRecursion IsNoIssue (deliveries c program n)
  first = each-present IsNoIssue _ (each-places (λ o. IfSome o IsNoIssue) (size c) (λ p. delivery (brought c program n p)) (λ p h. some_delivery (brought c program n p)))

  pub middle : AllByRecursion IsNoIssue (others c program n)
  middle = each-weaker IsNeutral IsNoIssue (others c program n) neutral_is (others_neutral c program n)

  cycle_adds : (p : ℕ) → p < size c → flat_map (added n p) (after c program (n + 1)).events ≡ logged_if n (next_number p) (sent c program n p)
  cycle_adds p h =
      let add = added n p in
      let none_first = none_added n p (deliveries c program n) first in
      let none_middle = none_added n p (others c program n) middle in
      ap (flat_map add) (events_are c program n)
      ∙ flat_map-append add (deliveries c program n) (others c program n ++ issues c program n)
      ∙ ap (λ xs. xs ++ flat_map add (others c program n ++ issues c program n)) none_first
      ∙ flat_map-append add (others c program n) (issues c program n)
      ∙ ap (λ xs. xs ++ flat_map add (issues c program n)) none_middle
      ∙ issues_add p h

  pub next_history : history c program (suc n) ≡ noted n (after c program (suc n)).events (history c program n)
  unfolding history
  next_history = refl

  pub own_next : (p : ℕ) → p < size c → own p (history c program (n + 1)).log.issues ≡ own p (history c program n).log.issues ++ logged_if n (next_number p) (sent c program n p)
  own_next p h =
      let next : n + 1 ≡ suc n = omega arith in
      let es = (after c program (suc n)).events in
      ap (λ k. own p (history c program k).log.issues) next
      ∙ ap (λ h. own p h.log.issues) next_history
      ∙ ap (own p) (noted_issues n es (history c program n))
      ∙ own_noted n p es (history c program n).log.issues
      ∙ ap (λ k. own p (history c program n).log.issues ++ flat_map (added n p) (after c program k).events) (sym next)
      ∙ ap (λ xs. own p (history c program n).log.issues ++ xs) (cycle_adds p h)
