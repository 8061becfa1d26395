-- the processor phase: each request that is issued has its own leaf
use Rattle.std.proofs.Common.{◌≡◌, ◌≢◌, ℕ, ◌<◌, ◌≤◌, List, [], ◌∷◌, ◌++◌, Bool, true, false, refl, arith, sym, ◌∙◌, ap, subst, ⊎_elim, inl, inr}
use Rattle.std.specs.{Prelude.{Option, Some, None, IfSome, ◌==◌}, List.AllByRecursion}
use Rattle.std.proofs.lemmas.Bool.{cases_Bool}
use Rattle.ultra_msg.specs.declared.{Op.{Op, TheVariants.Load}, Request.Request, ReplyMessage.ReplyMessage, Event.{Event, TheVariants.{Delivered, Served, Combined, Issued}}}
use Rattle.ultra_switch.specs.declared.{QueueEntry.QueueEntry, WaitRecord.WaitRecord}
use Rattle.ultra_mem.specs.declared.Placed.{Placed}
use Rattle.ultra_pni.specs.{declared.OpenCell.OpenCell, Interface.Interface}
use Rattle.ultra_isa.specs.declared.Instr.{Instr}
use Rattle.ultra_isa.proofs.Steps.{SendsInto}
use Rattle.ultra_model.specs.{Places.{places, present}, Phases.{issue_event, step_at, processor_phase}, Ranges.AreInRange}
use Rattle.ultra_model.specs.Machine.{Settings, Machine, Element, size, site, lane_at, replies_at, module_at, element_at}
use Rattle.ultra_model.specs.Routed.{IsEntryAt, IsRecordAt, IsReplyAt, IsPlacedAt, IsReplyOf, IsOwn, IsRouted}
use Rattle.ultra_model.specs.Balance.{weight, count, total, passes, reply_passes, entry_passes, record_passes, lane_on_way, replies_on_way, module_on_way, pending_on_way, on_way, IsBalanced}
use Rattle.ultra_model.proofs.{Each.each-append, Sums.{total_next, total_only, total_term, table_term}, Counting.is_reference, ReplyBalance.opened_once, Balanced.{none_open, sends}, AtPlaces.element-processor_phase}
use Rattle.ultra_serial_law.specs.Tree.{Tree, leaf, NamedRequest, Kept, kept, tree_of}
use Rattle.ultra_serial_law.specs.{Log.{LoggedIssue, latest_number, is_issue_for}, Legal.Entry as Done, SerialList.{History, noted, after_event}}
use Rattle.ultra_serial_law.proofs.{Series.sent, Standing.{each_in, some_in, marked_lanes, position_small}, ReplyForest.{each_and, some_and}}
use Rattle.ultra_serial_law.proofs.Tidy.{old_records, lanes_of, IsTidy, that_is, is_that, zero_weight}
use Rattle.ultra_serial_law.proofs.Forest.{latest_op, leaf_of, record_at, position_of, built, built_leaf, same_built, found_record, found_partner}
use Rattle.ultra_serial_law.proofs.Explained.{IsIn, IsExplained, bound, bound_small, IsKeptAt, IsAnswered, IsGiven, IsForest}
use Rattle.ultra_serial_law.proofs.Mentions.{mention, mentions, mention_some, present_mentions, sum-places, in-places, trees_noted, unmentioned}

-- ---- the issues after events
abbrev pub issues_after : ℕ → List LoggedIssue → Event → List LoggedIssue
issues_after n is (Delivered r) = is
issues_after n is (Served k r reply now) = is
issues_after n is (Combined s x a p q f) = is
issues_after n is (Issued r k) = is ++ record { pe = r.pe; number = k; cell = r.cell; op = r.op; cycle = n } ∷ []

abbrev pub issues_noted : ℕ → List Event → List LoggedIssue → List LoggedIssue
issues_noted n [] is = is
issues_noted n (e ∷ es) is = issues_noted n es (issues_after n is e)

pub event_issues : (n : ℕ) (h : History) (e : Event) → (after_event n h e).log.issues ≡ issues_after n h.log.issues e
event_issues n h (Delivered r) = refl
event_issues n h (Served k r reply now) = refl
event_issues n h (Combined s x a p q f) = refl
event_issues n h (Issued r k) = refl

pub noted_issues : (n : ℕ) (es : List Event) (h : History) → (noted n es h).log.issues ≡ issues_noted n es h.log.issues
noted_issues n [] h = refl
noted_issues n (e ∷ es) h = noted_issues n es (after_event n h e) ∙ ap (λ is. issues_noted n es is) (event_issues n h e)

number-append : (p a : ℕ) (is : List LoggedIssue) (i : LoggedIssue) (n : ℕ) → latest_number p a (is ++ i ∷ []) n ≡ elim (is_issue_for p a i) [ true ↦ i.number | false ↦ latest_number p a is n ]
number-append p a [] i n = refl
number-append p a (j ∷ is) i n = number-append p a is i (elim (is_issue_for p a j) [ true ↦ j.number | false ↦ n ])

op-append : (p a : ℕ) (is : List LoggedIssue) (i : LoggedIssue) (o : Op) → latest_op p a (is ++ i ∷ []) o ≡ elim (is_issue_for p a i) [ true ↦ i.op | false ↦ latest_op p a is o ]
op-append p a [] i o = refl
op-append p a (j ∷ is) i o = op-append p a is i (elim (is_issue_for p a j) [ true ↦ j.op | false ↦ o ])

-- the leaf of a reference is that of its latest issue
leaf_by : (p a : ℕ) (is : List LoggedIssue) (i : LoggedIssue) (b : Bool) → is_issue_for p a i ≡ b → leaf_of (is ++ i ∷ []) p a ≡ elim b [ true ↦ record { pe = p; number = i.number; cell = a; op = i.op } | false ↦ leaf_of is p a ]
leaf_by p a is i true e =
    let f : Bool → ℕ = λ b. elim b [ true ↦ i.number | false ↦ latest_number p a is 0 ] in
    let g : Bool → Op = λ b. elim b [ true ↦ i.op | false ↦ latest_op p a is Load ] in
    let n : latest_number p a (is ++ i ∷ []) 0 ≡ i.number = number-append p a is i 0 ∙ ap f e in
    let o : latest_op p a (is ++ i ∷ []) Load ≡ i.op = op-append p a is i Load ∙ ap g e in
    rw (n, o) refl
leaf_by p a is i false e =
    let f : Bool → ℕ = λ b. elim b [ true ↦ i.number | false ↦ latest_number p a is 0 ] in
    let g : Bool → Op = λ b. elim b [ true ↦ i.op | false ↦ latest_op p a is Load ] in
    let n : latest_number p a (is ++ i ∷ []) 0 ≡ latest_number p a is 0 = number-append p a is i 0 ∙ ap f e in
    let o : latest_op p a (is ++ i ∷ []) Load ≡ latest_op p a is Load = op-append p a is i Load ∙ ap g e in
    rw (n, o) refl

event_leaf : (n p a : ℕ) (is : List LoggedIssue) (e : Event) → mention (is_reference p a) e ≤ 0 → leaf_of (issues_after n is e) p a ≡ leaf_of is p a
event_leaf n p a is (Delivered r) h = refl
event_leaf n p a is (Served k r reply now) h = refl
event_leaf n p a is (Combined s x b q r f) h = refl
event_leaf n p a is (Issued r k) h = leaf_by p a is record { pe = r.pe; number = k; cell = r.cell; op = r.op; cycle = n } false (zero_weight (is_reference p a r.pe r.cell) h)

pub unmentioned_leaf : (n p a : ℕ) (es : List Event) (is : List LoggedIssue) → mentions (is_reference p a) es ≤ 0 → leaf_of (issues_noted n es is) p a ≡ leaf_of is p a
unmentioned_leaf n p a [] is h = refl
unmentioned_leaf n p a (e ∷ es) is h = unmentioned_leaf n p a es (issues_after n is e) (omega (arith, h)) ∙ event_leaf n p a is e (omega (arith, h))

abbrev issued_leaf : Request → ℕ → NamedRequest
issued_leaf r k = record { pe = r.pe; number = k; cell = r.cell; op = r.op }

-- a request that is issued has that leaf, and its tree is kept
pub issued_known : (n k : ℕ) (r : Request) (es : List Event) (is : List LoggedIssue) (ks : List Kept) → IsIn (Issued r k) es → mentions (is_reference r.pe r.cell) es ≤ 1
    → (leaf_of (issues_noted n es is) r.pe r.cell ≡ issued_leaf r k) × (tree_of r.pe r.cell (trees_noted es ks) ≡ Some (leaf (issued_leaf r k)))
issued_known n k r [] is ks h l = absurd h
issued_known n k r (e ∷ es) is ks (inl z) l =
    let t = is_reference r.pe r.cell in
    let here : mention t e ≡ mention t (Issued r k) = ap (λ v. mention t v) z in
    let that : weight (t r.pe r.cell) ≡ 1 = rw (that_is r.pe r.cell) refl in
    let rest : mentions t es ≤ 0 = omega (arith, l, here, that) in
    let g : Bool → Option Tree = λ b. elim b [ true ↦ Some (leaf (issued_leaf r k)) | false ↦ tree_of r.pe r.cell ks ] in (
      unmentioned_leaf n r.pe r.cell es (issues_after n is e) rest ∙ (ap (λ v. leaf_of (issues_after n is v) r.pe r.cell) z ∙ leaf_by r.pe r.cell is record { pe = r.pe; number = k; cell = r.cell; op = r.op; cycle = n } true (that_is r.pe r.cell)),
      rw z (unmentioned r.pe r.cell es (kept r.pe r.cell (leaf (issued_leaf r k)) ∷ ks) rest ∙ ap g (that_is r.pe r.cell)),
    )
issued_known n k r (e ∷ es) is ks (inr h) l = issued_known n k r es (issues_after n is e) _ h (omega (arith, l))

in-present : {X : Type 0} (x : X) (os : List (Option X)) → IsIn (Some x) os → IsIn x (present os)
in-present x [] h = absurd h
in-present x (None ∷ os) (inl e) = absurd cc
in-present x (None ∷ os) (inr h) = in-present x os h
in-present x (Some y ∷ os) (inl e) = let same : y ≡ x = cc in inl same
in-present x (Some y ∷ os) (inr h) = inr (in-present x os h)

module _ (c : Settings) (range : AreInRange c) (program : List Instr) (m : Machine) (w : IsRouted c m) (b : IsBalanced c m) (y : IsTidy c m) where
  abbrev after : Machine
  after = processor_phase c program m

  abbrev sent_by : ℕ → Option Request
  sent_by p = (step_at c program m p).sent

  abbrev event_at : ℕ → Option Event
  event_at p = issue_event (element_at m p) (sent_by p)

  abbrev pub all_issued : List Event
  all_issued = present (places (size c) event_at)

  -- ---- how often a reference is issued
  module _ (t : ℕ → ℕ → Bool) where
    all_mentions : mentions t all_issued ≡ total (size c) (λ p. mention_some t (event_at p))
    all_mentions = present_mentions t (places (size c) event_at) ∙ sum-places (mention_some t) (size c) event_at

  issued_by : (q a p : ℕ) (i j : Interface) (e : Element) (o : Option Request) → p ≢ q → SendsInto (site c p) c.most_open i j o → mention_some (is_reference q a) (issue_event e o) ≡ 0
  issued_by q a p i j e None apart h = refl
  issued_by q a p i j e (Some r) apart h =
      ⊎_elim (λ k. absurd (apart (sym h.0 ∙ (is_that q a r.pe r.cell k).0))) (λ k. rw k refl) (cases_Bool (is_reference q a r.pe r.cell))

  at_most_one : (q a : ℕ) (e : Element) (o : Option Request) → mention_some (is_reference q a) (issue_event e o) ≤ 1
  at_most_one q a e None = omega arith
  at_most_one q a e (Some r) = ⊎_elim (λ k. rw k (omega arith)) (λ k. rw k (omega arith)) (cases_Bool (is_reference q a r.pe r.cell))

  only_by : (q a : ℕ) → q < size c → mentions (is_reference q a) all_issued ≡ mention_some (is_reference q a) (event_at q)
  only_by q a hq =
      all_mentions (is_reference q a)
      ∙ total_only (size c) (λ p. mention_some (is_reference q a) (event_at p)) q hq
      (λ p hp apart. issued_by q a p (element_at m p).interface (step_at c program m p).interface (element_at m p) (sent_by p) apart (sends c program m p))

  issued_once : (q a : ℕ) → q < size c → mentions (is_reference q a) all_issued ≤ 1
  issued_once q a hq = omega (arith, only_by q a hq, at_most_one q a (element_at m q) (sent_by q))

  not_open : (q a : ℕ) (i j : Interface) (e : Element) (o : Option Request) → SendsInto (site c q) c.most_open i j o → 1 ≤ count (λ (v : OpenCell). v.cell == a) i.opened → mention_some (is_reference q a) (issue_event e o) ≤ 0
  not_open q a i j e None h l = omega arith
  not_open q a i j e (Some r) h l =
      ⊎_elim (λ k.
      let cell : r.cell ≡ a = (is_that q a r.pe r.cell k).1 in
      let none : count (λ (v : OpenCell). v.cell == a) i.opened ≡ 0 = rw (← cell) (none_open r.cell i.opened h.2) in
      absurd (omega (arith, none, l)))
      (λ k. rw k (omega arith)) (cases_Bool (is_reference q a r.pe r.cell))

  -- a reference that is on its way isn't issued
  not_issued : (q a : ℕ) → q < size c → 1 ≤ on_way (is_reference q a) c m → mentions (is_reference q a) all_issued ≤ 0
  not_issued q a hq l =
      let once = opened_once c range m q a hq in
      let even = b.balanced (is_reference q a) in
      let none = not_open q a (element_at m q).interface (step_at c program m q).interface (element_at m q) (sent_by q) (sends c program m q) (omega (arith, once, even, l)) in
      omega (arith, only_by q a hq, none)

  same_record : (s p a : ℕ) → record_at c after s p a ≡ record_at c m s p a
  unfolding processor_phase
  same_record s p a = refl

  module _ (n : ℕ) (is : List LoggedIssue) (ks : List Kept) (list : List Done) (f : IsForest c m ks is list) where
    abbrev pub issues : List LoggedIssue
    issues = issues_noted n all_issued is

    abbrev pub trees : List Kept
    trees = trees_noted all_issued ks

    same_tree : (k p a : ℕ) → k ≤ c.stages → p < size c → 1 ≤ on_way (is_reference p a) c m → built c after issues k p a ≡ built c m is k p a
    same_tree k p a hk hp l =
        same_built c after m issues is a k p record { issue = unmentioned_leaf n p a all_issued is (not_issued p a hp l); records = λ s z. same_record s p a }
        (λ s q u z e hq.
        let x = position_of c s q a in
        let small = position_small c range m b s q a (omega arith) hq in
        let route = found_record q a (lane_at m s x).records u e (IsRecordAt c s x) (w.records s x (omega arith) small) in
        let counts = found_partner q a (lane_at m s x).records u e in
        let there = table_term c.stages (size c) (λ i v. lane_on_way (is_reference u.partner a) (lane_at m i v)) s x (omega arith) small in (
          route.1.reference.element,
          record { issue = unmentioned_leaf n u.partner a all_issued is (not_issued u.partner a route.1.reference.element (omega (arith, counts, there))); records = λ i v. same_record i u.partner a },
        ))
        hp

    kept_after : (k : ℕ) (r : Request) → k ≤ c.stages → r.pe < size c → 1 ≤ on_way (is_reference r.pe r.cell) c m → IsKeptAt c m is ks k r → IsKeptAt c after issues trees k r
    kept_after k r hk hp l g =
        let same = same_tree k r.pe r.cell hk hp l in
        record { tree = unmentioned r.pe r.cell all_issued ks (not_issued r.pe r.cell hp l) ∙ (g.tree ∙ ap (λ t. Some t) (sym same)); op = ap (λ t. sent t) same ∙ g.op }

    answered_after : (k : ℕ) (r : ReplyMessage) → k ≤ c.stages → r.pe < size c → 1 ≤ on_way (is_reference r.pe r.cell) c m → IsAnswered c m is list k r → IsAnswered c after issues list k r
    answered_after k r hk hp l g = subst (λ t. IsExplained list t r.reply) (sym (same_tree k r.pe r.cell hk hp l)) g

    old_pending : (p : ℕ) → p < size c → AllByRecursion (IsKeptAt c after issues trees 0) (element_at m p).interface.pending
    old_pending p hp =
        each_in (λ (r : Request). IsOwn c p r × IsKeptAt c m is ks 0 r) (IsKeptAt c after issues trees 0) (element_at m p).interface.pending
        (λ r counts h.
        let hq : r.pe < size c = rw h.0.0 hp in
        let one = counts (passes (is_reference r.pe r.cell)) (that_is r.pe r.cell) in
        let there = total_term (size c) (λ q. pending_on_way (is_reference r.pe r.cell) (element_at m q)) p hp in
        kept_after 0 r (omega arith) hq (omega (arith, one, there)) h.1)
        (each_and (IsOwn c p) (IsKeptAt c m is ks 0) (element_at m p).interface.pending (w.pending p hp) (f.pending p hp))

    -- a request that is issued now
    new_kept : (p : ℕ) (r : Request) → p < size c → r.pe ≡ p → IsIn (Issued r (element_at m p).issued) all_issued → IsKeptAt c after issues trees 0 r
    new_kept p r hp e h =
        let hq : r.pe < size c = rw e hp in
        let known = issued_known n (element_at m p).issued r all_issued is ks h (issued_once r.pe r.cell hq) in
        let tree : built c after issues 0 r.pe r.cell ≡ leaf (issued_leaf r (element_at m p).issued) = built_leaf c after issues r.pe r.cell ∙ ap (λ l. leaf l) known.0 in
        record { tree = known.1 ∙ ap (λ t. Some t) (sym tree); op = ap (λ t. sent t) tree }

    pending_by : (p : ℕ) (j : Interface) (o : Option Request) → p < size c → SendsInto (site c p) c.most_open (element_at m p).interface j o → (λ (q : Option Request). IfSome q (λ r. IsIn (Issued r (element_at m p).issued) all_issued)) o
        → AllByRecursion (IsKeptAt c after issues trees 0) j.pending
    pending_by p j None hp e h = rw e (old_pending p hp)
    pending_by p j (Some r) hp k h = rw k.4.1 (each-append (IsKeptAt c after issues trees 0) (element_at m p).interface.pending (r ∷ []) (old_pending p hp) (new_kept p r hp k.0 h, tt))

    issue_there : (p : ℕ) (o : Option Request) → IsIn (issue_event (element_at m p) o) (places (size c) event_at) → IfSome o (λ r. IsIn (Issued r (element_at m p).issued) all_issued)
    issue_there p None h = tt
    issue_there p (Some r) h = in-present (Issued r (element_at m p).issued) (places (size c) event_at) h

    pending_after : (p : ℕ) → p < size c → AllByRecursion (IsKeptAt c after issues trees 0) (element_at after p).interface.pending
    pending_after p hp =
        rw (element-processor_phase c program m p hp)
        (pending_by p (step_at c program m p).interface (sent_by p) hp (sends c program m p) (issue_there p (sent_by p) (in-places event_at (size c) p hp)))

    queued_after : (s x : ℕ) → s < c.stages → x < size c → AllByRecursion (λ (e : QueueEntry). IsKeptAt c after issues trees (bound s e.combined) e.request) (lane_at m s x).queue
    queued_after s x hs hx =
        each_in (λ (e : QueueEntry). IsEntryAt c s x e × IsKeptAt c m is ks (bound s e.combined) e.request) (λ (e : QueueEntry). IsKeptAt c after issues trees (bound s e.combined) e.request) (lane_at m s x).queue
        (λ e counts h.
        let t = is_reference e.request.pe e.request.cell in
        let one = counts (entry_passes t) (that_is e.request.pe e.request.cell) in
        let there = table_term c.stages (size c) (λ i z. lane_on_way t (lane_at m i z)) s x hs hx in
        kept_after (bound s e.combined) e.request (bound_small c.stages s e.combined hs) h.0.reference.element (omega (arith, one, there)) h.1)
        (each_and (IsEntryAt c s x) (λ (e : QueueEntry). IsKeptAt c m is ks (bound s e.combined) e.request) (lane_at m s x).queue (w.requests s x hs hx) (f.queued s x hs hx))

    input_after : (k : ℕ) → k < size c → IfSome (module_at m k).inp (λ (p : Placed). IsKeptAt c after issues trees c.stages p.request)
    input_after k hk =
        some_in (λ (p : Placed). IsPlacedAt c k p × IsKeptAt c m is ks c.stages p.request) (λ (p : Placed). IsKeptAt c after issues trees c.stages p.request) (module_at m k).inp
        (λ p counts h.
        let t = is_reference p.request.pe p.request.cell in
        let one = counts (λ (q : Placed). t q.request.pe q.request.cell) (that_is p.request.pe p.request.cell) in
        let there = total_term (size c) (λ z. module_on_way t (module_at m z)) k hk in
        kept_after c.stages p.request (omega arith) h.0.0.reference.element (omega (arith, one, there)) h.1)
        (some_and (IsPlacedAt c k) (λ (p : Placed). IsKeptAt c m is ks c.stages p.request) (module_at m k).inp (w.inputs k hk) (f.inputs k hk))

    output_after : (k : ℕ) → k < size c → IfSome (module_at m k).out (IsAnswered c after issues list c.stages)
    output_after k hk =
        some_in (λ (r : ReplyMessage). IsReplyOf c k r × IsAnswered c m is list c.stages r) (IsAnswered c after issues list c.stages) (module_at m k).out
        (λ r counts h.
        let t = is_reference r.pe r.cell in
        let one = counts (reply_passes t) (that_is r.pe r.cell) in
        let there = total_term (size c) (λ z. module_on_way t (module_at m z)) k hk in
        answered_after c.stages r (omega arith) h.0.reference.element (omega (arith, one, there)) h.1)
        (some_and (IsReplyOf c k) (IsAnswered c m is list c.stages) (module_at m k).out (w.outputs k hk) (f.outputs k hk))

    replies_after : (s v : ℕ) → s < c.stages → v < size c → AllByRecursion (IsAnswered c after issues list s) (replies_at m s v)
    replies_after s v hs hv =
        each_in (λ (r : ReplyMessage). IsReplyAt c s v r × IsAnswered c m is list s r) (IsAnswered c after issues list s) (replies_at m s v)
        (λ r counts h.
        let t = is_reference r.pe r.cell in
        let one = counts (reply_passes t) (that_is r.pe r.cell) in
        let there = table_term c.stages (size c) (λ i z. replies_on_way t (replies_at m i z)) s v hs hv in
        answered_after s r (omega (arith, hs)) h.0.reference.element (omega (arith, one, there)) h.1)
        (each_and (IsReplyAt c s v) (IsAnswered c m is list s) (replies_at m s v) (w.replies s v hs hv) (f.replies s v hs hv))

    old_on_way : (p a s x : ℕ) → p < size c → s < c.stages → x < size c → 1 ≤ old_records (is_reference p a) (lane_at m s x).records → 1 ≤ on_way (is_reference p a) c m
    old_on_way p a s x hp hs hx l =
        let t = is_reference p a in
        let next = total_next s (λ i. lanes_of t c m i) in
        omega (arith, l, y.beyond p a s x hs hx, b.balanced t, next, marked_lanes c m t s)

    records_after : (s x : ℕ) → s < c.stages → x < size c → AllByRecursion (IsGiven c after issues s) (lane_at m s x).records
    records_after s x hs hx =
        each_in (λ (u : WaitRecord). IsRecordAt c s x u × IsGiven c m is s u) (IsGiven c after issues s) (lane_at m s x).records
        (λ u counts h.
        let old = h.0.0.reference.element in
        let new = h.0.1.reference.element in
        let one = counts (λ (v : WaitRecord). is_reference u.pe u.cell v.pe v.cell) (that_is u.pe u.cell) in
        let two = counts (record_passes (is_reference u.partner u.cell)) (that_is u.partner u.cell) in
        let there = table_term c.stages (size c) (λ i z. lane_on_way (is_reference u.partner u.cell) (lane_at m i z)) s x hs hx in
        let first = same_tree s u.pe u.cell (omega (arith, hs)) old (old_on_way u.pe u.cell s x old hs hx one) in
        let second = same_tree s u.partner u.cell (omega (arith, hs)) new (omega (arith, two, there)) in
        record { old = rw (first, second) h.1.old; new = rw (first, second) h.1.new })
        (each_and (IsRecordAt c s x) (IsGiven c m is s) (lane_at m s x).records (w.records s x hs hx) (f.records s x hs hx))

    same_lane : (s x : ℕ) → lane_at after s x ≡ lane_at m s x
    unfolding processor_phase
    same_lane s x = refl

    same_replies : (s v : ℕ) → replies_at after s v ≡ replies_at m s v
    unfolding processor_phase
    same_replies s v = refl

    same_memory_module : (k : ℕ) → module_at after k ≡ module_at m k
    unfolding processor_phase
    same_memory_module k = refl

    pub forest-processor_phase : IsForest c after trees issues list
    forest-processor_phase = record {
      pending = pending_after;
      queued = λ s x hs hx. rw (same_lane s x) (queued_after s x hs hx);
      inputs = λ k hk. rw (same_memory_module k) (input_after k hk);
      outputs = λ k hk. rw (same_memory_module k) (output_after k hk);
      replies = λ s v hs hv. rw (same_replies s v) (replies_after s v hs hv);
      records = λ s x hs hx. rw (same_lane s x) (records_after s x hs hx);
    }
