-- the law of the explainer: in every run the trees so far can absorb each event
use Rattle.std.proofs.Common.{◌≡◌, ℕ, zero, suc, ◌+◌, ◌≤◌, List, [], ◌∷◌, ◌++◌, Bool, refl, arith, sym, ◌∙◌, ap, subst}
use Rattle.std.specs.{Prelude.{Option, None, IfSome}, List.AllByRecursion}
use Rattle.ultra_msg.specs.declared.Event.{Event, TheVariants.{Delivered, Served, Combined, Issued}}
use Rattle.ultra_isa.specs.declared.Instr.{Instr}
use Rattle.ultra_model.specs.{Machine.{Settings, Machine, size}, Ranges.AreInRange}
use Rattle.ultra_model.specs.Phases.{reply_phase, memory_phase, request_phase, processor_phase, cycle, after}
use Rattle.ultra_serial_law.specs.{Tree.{Tree, Kept, trees_after}, Legal.{given, replayed}, SerialList.{History, noted, history, serial_list}}
use Rattle.ultra_serial_law.specs.Explicable.{served_tree, AreAbsorbable, ServeTrees, AreLeavesAdded, IsOfMachine, AreExplicable, ExplainingLaw}
use Rattle.ultra_serial_law.proofs.{AddedLeaves.leaves_added, Mentions.{sum_of, trees_noted, noted_trees}, Issued.each_issued, Fitting.{servings_fit, meetings_fit}, NewRequests.issues_absorbable}
use Rattle.ultra_serial_law.proofs.Absorbing.{kept_passing, lost, brought, IsFit, fit_absorbable, fit_served, absorbable-append, serve_trees-append, trees_noted-append}
use Rattle.ultra_serial_law.proofs.KeptTrees.{all_brought, events_kept, requests_of, requests_replied, requests_served, requests_combined, requests_issued}
use Rattle.ultra_serial_law.proofs.Law.{IsSerial, serial_after, deliveries, any_delivery, servings, meetings, issues_of, events_of, noted_cycle, history_next, serial-reply_phase, serial-memory_phase, serial-request_phase}

sum_zero : (f : Event → ℕ) (es : List Event) → AllByRecursion (λ e. f e ≡ 0) es → sum_of f es ≡ 0
sum_zero f [] h = refl
sum_zero f (e ∷ es) h = omega (arith, h.0, sum_zero f es h.1)

-- events that fit bring no tree
fit_brings_one : (t : ℕ → ℕ → Bool) (P : Tree → Type 0) (ks : List Kept) (es : List Event) (e : Event) → IsFit P ks es e → brought t e ≡ 0
fit_brings_one t P ks es (Delivered r) g = refl
fit_brings_one t P ks es (Served k r reply now) g = refl
fit_brings_one t P ks es (Combined s x a p q f) g = refl
fit_brings_one t P ks es (Issued r i) g = absurd g

fit_brings : (t : ℕ → ℕ → Bool) (P : Tree → Type 0) (ks : List Kept) (es xs : List Event) → AllByRecursion (IsFit P ks es) xs → all_brought t xs ≡ 0
fit_brings t P ks es [] h = refl
fit_brings t P ks es (x ∷ xs) h = omega (arith, fit_brings_one t P ks es x h.0, fit_brings t P ks es xs h.1)

-- events that serve nothing
IsIdle : Event → Type 0
IsIdle e = (ks : List Kept) → served_tree ks e ≡ None

serve_nothing : (P : Tree → Type 0) (es : List Event) (ks : List Kept) → AllByRecursion IsIdle es → ServeTrees P ks es
unfolding IsIdle
serve_nothing P [] ks h = tt
serve_nothing P (e ∷ es) ks h = (subst (λ (o : Option Tree). IfSome o P) (sym (h.0 ks)) tt, serve_nothing P es (trees_after ks e) h.1)

module _ (c : Settings) (range : AreInRange c) (program : List Instr) where
  -- no more trees are kept than requests are on their way
  abbrev AreFew : Machine → List Kept → Type 0
  AreFew m ks = (t : ℕ → ℕ → Bool) → kept_passing t ks ≤ requests_of t c m

  module _ (n : ℕ) (m : Machine) (h : History) (w : IsSerial c n m h) (few : AreFew m h.trees) where
    abbrev CanCome : List Kept → List Event → Type 0
    CanCome ks es = AreAbsorbable (size c) c.most_open ks es

    abbrev Serve : List Kept → List Event → Type 0
    Serve ks es = ServeTrees (IsOfMachine c) ks es

    -- ---- the machine, its events and its history after each phase
    abbrev replied : Machine
    replied = reply_phase c m

    abbrev acted : Machine
    acted = memory_phase c replied

    abbrev moved : Machine
    moved = request_phase c acted

    abbrev deliveries_now : List Event
    deliveries_now = deliveries c range program n m

    abbrev acts : List Event
    acts = servings c range program n replied

    abbrev meets : List Event
    meets = meetings c range program n acted

    abbrev sent : List Event
    sent = issues_of c range program n moved

    abbrev h1 : History
    h1 = noted n deliveries_now h

    abbrev h2 : History
    h2 = noted n acts h1

    abbrev h3 : History
    h3 = noted n meets h2

    w1 : IsSerial c n replied h1
    w1 = serial-reply_phase c range program n m h w

    w2 : IsSerial c n acted h2
    w2 = serial-memory_phase c range program n replied h1 w1

    w3 : IsSerial c n moved h3
    w3 = serial-request_phase c range program n acted h2 w2

    -- ---- replies
    deliveries_fit : AllByRecursion (IsFit (IsOfMachine c) h.trees deliveries_now) deliveries_now
    deliveries_fit = any_delivery c range program n (IsFit (IsOfMachine c) h.trees deliveries_now) m (λ r. tt)

    deliveries_come : CanCome h.trees deliveries_now
    deliveries_come = fit_absorbable (IsOfMachine c) (size c) c.most_open deliveries_now h.trees deliveries_fit

    few1 : AreFew replied h1.trees
    few1 t =
        let kept = events_kept t (size c) c.most_open deliveries_now h.trees deliveries_come in
        let none = fit_brings t (IsOfMachine c) h.trees deliveries_now deliveries_now deliveries_fit in
        let now = ap (λ ks. kept_passing t ks) (noted_trees n deliveries_now h) in
        omega (arith, few t, kept, none, now, requests_replied t c m)

    -- ---- memory
    acts_fit : AllByRecursion (IsFit (IsOfMachine c) h1.trees acts) acts
    acts_fit = servings_fit c range program n replied h1 w1

    acts_come : CanCome h1.trees acts
    acts_come = fit_absorbable (IsOfMachine c) (size c) c.most_open acts h1.trees acts_fit

    few2 : AreFew acted h2.trees
    few2 t =
        let kept = events_kept t (size c) c.most_open acts h1.trees acts_come in
        let none = fit_brings t (IsOfMachine c) h1.trees acts acts acts_fit in
        let now = ap (λ ks. kept_passing t ks) (noted_trees n acts h1) in
        omega (arith, few1 t, kept, none, now, requests_served t c range program n replied h1 w1)

    -- ---- requests
    meets_fit : AllByRecursion (IsFit (IsOfMachine c) h2.trees meets) meets
    meets_fit = meetings_fit c range program n acted h2 w2

    meets_come : CanCome h2.trees meets
    meets_come = fit_absorbable (IsOfMachine c) (size c) c.most_open meets h2.trees meets_fit

    few3 : AreFew moved h3.trees
    few3 t =
        let kept = events_kept t (size c) c.most_open meets h2.trees meets_come in
        let none = fit_brings t (IsOfMachine c) h2.trees meets meets meets_fit in
        let now = ap (λ ks. kept_passing t ks) (noted_trees n meets h2) in
        omega (arith, few2 t, kept, none, now, requests_combined t c range program n acted h2 w2)

    -- ---- processors
    sent_come : CanCome h3.trees sent
    sent_come = issues_absorbable c range program n moved h3 w3 few3

    sent_serve : Serve h3.trees sent
    unfolding IsIdle
    sent_serve = serve_nothing (IsOfMachine c) sent h3.trees (each_issued c program moved IsIdle (λ p r hp e ks. refl))

    few4 : AreFew (processor_phase c program moved) (noted n sent h3).trees
    few4 t =
        let kept = events_kept t (size c) c.most_open sent h3.trees sent_come in
        let none = sum_zero (lost t) sent (each_issued c program moved (λ e. lost t e ≡ 0) (λ p r hp e. refl)) in
        let now = ap (λ ks. kept_passing t ks) (noted_trees n sent h3) in
        omega (arith, few3 t, kept, none, now, requests_issued t c range program n moved h3 w3)

    -- ---- in order
    at1 : trees_noted deliveries_now h.trees ≡ h1.trees
    at1 = sym (noted_trees n deliveries_now h)

    at2 : trees_noted (deliveries_now ++ acts) h.trees ≡ h2.trees
    at2 = trees_noted-append deliveries_now acts h.trees ∙ (ap (λ ks. trees_noted acts ks) at1 ∙ sym (noted_trees n acts h1))

    at3 : trees_noted ((deliveries_now ++ acts) ++ meets) h.trees ≡ h3.trees
    at3 = trees_noted-append (deliveries_now ++ acts) meets h.trees ∙ (ap (λ ks. trees_noted meets ks) at2 ∙ sym (noted_trees n meets h2))

    all_come : CanCome h.trees (((deliveries_now ++ acts) ++ meets) ++ sent)
    all_come =
        absorbable-append (size c) c.most_open ((deliveries_now ++ acts) ++ meets) sent h.trees
        (absorbable-append (size c) c.most_open (deliveries_now ++ acts) meets h.trees
        (absorbable-append (size c) c.most_open deliveries_now acts h.trees deliveries_come (subst (λ ks. CanCome ks acts) (sym at1) acts_come))
        (subst (λ ks. CanCome ks meets) (sym at2) meets_come))
        (subst (λ ks. CanCome ks sent) (sym at3) sent_come)

    all_serve : Serve h.trees (((deliveries_now ++ acts) ++ meets) ++ sent)
    all_serve =
        serve_trees-append (IsOfMachine c) ((deliveries_now ++ acts) ++ meets) sent h.trees
        (serve_trees-append (IsOfMachine c) (deliveries_now ++ acts) meets h.trees
        (serve_trees-append (IsOfMachine c) deliveries_now acts h.trees (fit_served (IsOfMachine c) deliveries_now h.trees deliveries_fit) (subst (λ ks. Serve ks acts) (sym at1) (fit_served (IsOfMachine c) acts h1.trees acts_fit)))
        (subst (λ ks. Serve ks meets) (sym at2) (fit_served (IsOfMachine c) meets h2.trees meets_fit)))
        (subst (λ ks. Serve ks sent) (sym at3) sent_serve)

    cycle_comes : CanCome h.trees (cycle c program m).events
    cycle_comes = subst (λ es. CanCome h.trees es) (sym (events_of c range program n m)) all_come

    cycle_serves : Serve h.trees (cycle c program m).events
    cycle_serves = subst (λ es. Serve h.trees es) (sym (events_of c range program n m)) all_serve

    few_next : AreFew (cycle c program m) (noted n (cycle c program m).events h).trees
    unfolding cycle
    few_next = subst (λ (k : History). AreFew (processor_phase c program moved) k.trees) (sym (noted_cycle c range program n m h)) few4

  -- ---- all cycles
  few_after : (n : ℕ) → AreFew (after c program n) (history c program n).trees
  unfolding after history
  few_after zero = λ t. omega arith
  few_after (suc n) = few_next n (after c program n) (history c program n) (serial_after c range program n) (few_after n)

  next_is : (n : ℕ) → (cycle c program (after c program n)).events ≡ (after c program (n + 1)).events
  unfolding after
  next_is n = ap (λ k. (after c program k).events) (let e : suc n ≡ n + 1 = omega arith in e)

  -- what the history of a cycle more has is what its events add
  listed_next : (n : ℕ) → AreLeavesAdded (serial_list c program n) (history c program n).trees (after c program (suc n)).events (serial_list c program (suc n))
  listed_next n =
      let es = (after c program (suc n)).events in
      subst (λ (h : History). AreLeavesAdded (serial_list c program n) (history c program n).trees es (replayed (given c.initial) h.order)) (sym (history_next c range program n)) (leaves_added (given c.initial) n es (history c program n))

  are_explicable : AreExplicable c program
  are_explicable = record {
    absorbable = λ n. subst (λ es. AreAbsorbable (size c) c.most_open (history c program n).trees es) (next_is n) (cycle_comes n (after c program n) (history c program n) (serial_after c range program n) (few_after n));
    served = λ n. subst (λ es. ServeTrees (IsOfMachine c) (history c program n).trees es) (next_is n) (cycle_serves n (after c program n) (history c program n) (serial_after c range program n) (few_after n));
    listed = λ n. subst (λ k. AreLeavesAdded (serial_list c program n) (history c program n).trees (after c program k).events (serial_list c program k)) (let e : suc n ≡ n + 1 = omega arith in e) (listed_next n);
  }

-- the law
pub explaining : ExplainingLaw
explaining c range program = are_explicable c range program
