-- the paracomputer law: each cycle of the machine is some steps of the paracomputer. First come
-- those of the requests that act, in the order of the serial list, then those of the processing
-- elements with no open cell
use Rattle.std.proofs.Common.{◌≡◌, ℕ, zero, suc, ◌*◌, ◌<◌, ◌≤◌, List, [], ◌∷◌, ◌++◌, map, true, refl, arith, sym, ◌∙◌, ap, subst, inl, inr}
use Rattle.std.specs.Prelude.{Option, Some, None, IfSome, All, ◌==◌}
use Rattle.std.specs.List.{AllByRecursion}
use Rattle.ultra_msg.specs.declared.{Request.Request, ReplyMessage.ReplyMessage, Event.{Event, TheVariants.Issued}}
use Rattle.ultra_pni.specs.declared.OpenCell.{OpenCell}
use Rattle.ultra_isa.specs.{declared.Instr.Instr, Step.{Core, fresh_core}}
use Rattle.ultra_route.specs.Route.{shuffled}
use Rattle.ultra_model.specs.{Places.{places, present}, Ranges.AreInRange, Balance.count}
use Rattle.ultra_model.specs.Machine.{Settings, Machine, Element, size, given_value, element_at}
use Rattle.ultra_model.specs.Phases.{deliver, delivered, without_pending, step_at, arriving_request, issue_event, reply_phase, memory_phase, request_phase, processor_phase, cycle, after}
use Rattle.ultra_model.proofs.{Each.{each-append, each-weaker, each-right, places_at, length-places}, AtPlaces.{element-start, element-reply_phase, element-memory_phase, element-request_phase, element-processor_phase}, ReplyBalance.delivered_open}
use Rattle.ultra_serial_law.specs.{declared.{LoggedIssue.LoggedIssue, Entry.Entry as Done, NamedRequest.NamedRequest}, Log.latest_number, SerialList.{History, noted, history}}
use Rattle.ultra_serial_law.specs.Legal.{Cells, given, answered_by, leaf_of_entry, cells_after, replayed}
use Rattle.ultra_serial_law.proofs.{Forest.leaf_of, Explained.{IsIn, in-append}, Mentions.in-places, MemoryForest.noted-append, ProcessorForest.{issues_noted, noted_issues}, RequestForest.in_holds, Named.{IsNoIssue, IsLogged, AreLogged, noted_logged}, Answered.{IsNoAct, same_order}, Lists.{count_replayed, each_replayed}, Replays.replayed-append}
use Rattle.ultra_serial_law.proofs.Issued.{is_named, IsEarlier, same_issues, NewIssue, each_issued, sent_own}
use Rattle.ultra_serial_law.proofs.Law.{IsSerial, serial_after, grows-noted, deliveries, servings, meetings, issues_of, any_delivery, each_serving, each_meeting, events_of, delivered_entry, history_next, given_is}
use Rattle.ultra_para.specs.{Para.{Para, core_at, start_para, run_para}, Careful.is_careful, Law.{IsReached, ParacomputerLaw}}
use Rattle.ultra_para.proofs.{Relation.{IsWaiting, State, AreRelated, opening}, Schedules.run-append, Serving.serve_all, Delivering.state_delivered, Stepping.{IsNewOf, turn, Turns, IsReachedFrom, all_turns}}

in-present : {X : Type 0} (x : X) (os : List (Option X)) → IsIn (Some x) os → IsIn x (present os)
in-present x [] h = absurd h
in-present x (None ∷ os) (inl e) = absurd cc
in-present x (None ∷ os) (inr h) = in-present x os h
in-present x (Some y ∷ os) (inl e) = let same : y ≡ x = cc in inl same
in-present x (Some y ∷ os) (inr h) = inr (in-present x os h)

all_of : (P : ℕ → Type 0) (xs : List ℕ) → AllByRecursion P xs → All P xs
all_of P [] h k d l = absurd (omega (arith, l))
all_of P (x ∷ xs) h zero d l = h.0
all_of P (x ∷ xs) h (suc k) d l = all_of P xs h.1 k d (omega (arith, l))

module _ (c : Settings) (program : List Instr) where
  -- ---- replies
  module _ (is : List LoggedIssue) (list : List Done) (once : (p k : ℕ) → count (λ (d : Done). is_named p k (leaf_of_entry d)) list ≤ 1) (p : ℕ) (q : Core) (e : Element) where
    deliver_one : (o : Option ReplyMessage) → IfSome o (λ r. (r.pe ≡ p) × (1 ≤ count (λ (v : OpenCell). v.cell == r.cell) e.interface.opened)) → IfSome o (λ r. IsIn (answered_by (leaf_of is r.pe r.cell) r.reply) list)
        → State c program is list p e.core e.interface.opened e.issued q → State c program is list p (deliver e o).core (deliver e o).interface.opened (deliver e o).issued q
    deliver_one None h g s = s
    deliver_one (Some r) h g s =
        state_delivered c program is list once p e.core e.interface.opened e.issued q r h.1
        record { entry = answered_by (leaf_of is r.pe r.cell) r.reply; stands = g; pe = h.0; number = ap (λ z. latest_number z r.cell is 0) h.0; reply = refl } s

module _ (c : Settings) (range : AreInRange c) (program : List Instr) (careful : is_careful program ≡ true) where
  abbrev initial : Cells
  initial = given c.initial

  -- the relation after n cycles
  abbrev Stands : ℕ → Para → Type 0
  Stands n v = AreRelated c program (history c program n).log.issues (replayed initial (history c program n).order) (cells_after initial (history c program n).order) (λ p. element_at (after c program n) p) v

  module _ (n : ℕ) where
    abbrev m : Machine
    m = after c program n

    abbrev m1 : Machine
    m1 = reply_phase c m

    abbrev m2 : Machine
    m2 = memory_phase c m1

    abbrev m3 : Machine
    m3 = request_phase c m2

    abbrev h : History
    h = history c program n

    abbrev is : List LoggedIssue
    is = h.log.issues

    -- the events of the cycle before the last phase, and those of the last
    abbrev early : List Event
    early = (deliveries c range program n m ++ servings c range program n m1) ++ meetings c range program n m2

    abbrev es : List Event
    es = issues_of c range program n m3

    abbrev mid : History
    mid = noted n early h

    next_machine : after c program (suc n) ≡ processor_phase c program m3
    unfolding after cycle
    next_machine = refl

    next_events : (after c program (suc n)).events ≡ early ++ es
    unfolding after
    next_events = events_of c range program n m

    next_history : history c program (suc n) ≡ noted n es mid
    next_history = history_next c range program n ∙ (ap (λ evs. noted n evs h) next_events ∙ noted-append n early es h)

    no_issue : AllByRecursion IsNoIssue early
    no_issue =
        each-append IsNoIssue (deliveries c range program n m ++ servings c range program n m1) (meetings c range program n m2)
        (each-append IsNoIssue (deliveries c range program n m) (servings c range program n m1) (any_delivery c range program n IsNoIssue m (λ r. tt)) (each_serving c range program n IsNoIssue m1 (λ k a. tt)))
        (each_meeting c range program n IsNoIssue m2 (λ s x a p q f. tt))

    mid_issues : mid.log.issues ≡ is
    mid_issues = same_issues n early h no_issue

    next_issues : (history c program (suc n)).log.issues ≡ issues_noted n es is
    next_issues = ap (λ (k : History). k.log.issues) next_history ∙ (noted_issues n es mid ∙ ap (λ js. issues_noted n es js) mid_issues)

    next_order : (history c program (suc n)).order ≡ mid.order
    next_order = ap (λ (k : History). k.order) next_history ∙ same_order n es mid (each_issued c program m3 IsNoAct (λ p r hp e. tt))

    serial : IsSerial c n m h
    serial = serial_after c range program n

    serial_next : IsSerial c (suc n) (after c program (suc n)) (history c program (suc n))
    serial_next = serial_after c range program (suc n)

    rest : List NamedRequest
    rest = (grows-noted n early h).0

    longer : mid.order ≡ h.order ++ rest
    unfolding rest
    longer = (grows-noted n early h).1

    logged : AreLogged is (h.order ++ rest)
    logged =
        let one = (noted_logged n early h serial.recorded.logged).order in
        let two : AreLogged is mid.order = subst (λ (js : List LoggedIssue). AreLogged js mid.order) mid_issues one in
        subst (λ (ls : List NamedRequest). AreLogged is ls) longer two

    logged_rest : AreLogged is rest
    logged_rest = each-right (IsLogged is) h.order rest logged

    small_rest : AllByRecursion (λ (l : NamedRequest). l.pe < size c) rest
    small_rest = each-weaker (IsLogged is) (λ (l : NamedRequest). l.pe < size c) rest (λ l z. let known = in_holds (IsEarlier c m n) z.0 is serial.recorded.issues z.1 in rw (← z.2) known.element) logged_rest

    order_is : (history c program (suc n)).order ≡ h.order ++ rest
    order_is = next_order ∙ longer

    once_order : (p k : ℕ) → count (is_named p k) (h.order ++ rest) ≤ 1
    once_order p k =
        let same : count (is_named p k) (history c program (suc n)).order ≡ count (is_named p k) (h.order ++ rest) = ap (λ ls. count (is_named p k) ls) order_is in
        omega (arith, same, serial_next.recorded.once p k)

    abbrev order : List NamedRequest
    order = h.order ++ rest

    abbrev list : List Done
    list = replayed initial order

    once : (p k : ℕ) → count (λ (d : Done). is_named p k (leaf_of_entry d)) list ≤ 1
    once p k = omega (arith, count_replayed (is_named p k) initial order, once_order p k)

    all_logged : (d : Done) → IsIn d list → IsLogged is (leaf_of_entry d)
    all_logged d k = in_holds (λ (u : Done). IsLogged is (leaf_of_entry u)) d list (each_replayed (IsLogged is) initial order logged) k

    -- ---- a processing element through the cycle
    brought : (p : ℕ) → p < size c → element_at m3 p ≡ without_pending (deliver (element_at m p) (delivered c m p)) (arriving_request c m2 0 (shuffled c.stages p))
    brought p hp =
        element-request_phase c m2 p hp
        ∙ ap (λ e. without_pending e (arriving_request c m2 0 (shuffled c.stages p))) (element-memory_phase c m1 p ∙ element-reply_phase c m p hp)

    stands_in : (o : Option ReplyMessage) → IfSome o (λ (r : ReplyMessage). IsIn (answered_by (leaf_of is r.pe r.cell) r.reply) (replayed initial h.order)) → IfSome o (λ (r : ReplyMessage). IsIn (answered_by (leaf_of is r.pe r.cell) r.reply) list)
    stands_in None k = tt
    stands_in (Some r) k = rw (replayed-append initial h.order rest) (in-append (answered_by (leaf_of is r.pe r.cell) r.reply) (replayed initial h.order) (replayed (cells_after initial h.order) rest) k)

    abbrev Before : ℕ → Core → Type 0
    Before p q = State c program is list p (element_at m p).core (element_at m p).interface.opened (element_at m p).issued q

    abbrev Between : ℕ → Core → Type 0
    Between p q = State c program is list p (element_at m3 p).core (element_at m3 p).interface.opened (element_at m3 p).issued q

    at_delivery : (p : ℕ) (q : Core) → p < size c → Before p q → Between p q
    at_delivery p q hp s =
        let one = deliver_one c program is list once p q (element_at m p) (delivered c m p) (delivered_open c range m serial.sound.routes serial.sound.balance p hp)
        (stands_in (delivered c m p) (delivered_entry c range program n m h serial p hp)) s in
        subst (λ (e : Element). State c program is list p e.core e.interface.opened e.issued q) (sym (brought p hp)) one

    -- ---- what is issued
    new_is : (p q : ℕ) (r : Request) → p ≡ q → (step_at c program m3 q).sent ≡ Some r → IsNewOf (step_at c program m3 p).sent (element_at m3 p).issued record { pe = r.pe; number = (element_at m3 q).issued; cell = r.cell; op = r.op; cycle = n }
    new_is p q r e f =
        let sent : (step_at c program m3 p).sent ≡ Some r = ap (λ z. (step_at c program m3 z).sent) e ∙ f in
        let number : (element_at m3 q).issued ≡ (element_at m3 p).issued = ap (λ z. (element_at m3 z).issued) (sym e) in
        subst (λ o. IsNewOf o (element_at m3 p).issued record { pe = r.pe; number = (element_at m3 q).issued; cell = r.cell; op = r.op; cycle = n }) (sym sent) (number, refl, refl)

    all_new : (p : ℕ) → AllByRecursion (NewIssue (λ (u : LoggedIssue). u.pe ≡ p → IsNewOf (step_at c program m3 p).sent (element_at m3 p).issued u) n) es
    all_new p =
        each_issued c program m3 (NewIssue (λ (u : LoggedIssue). u.pe ≡ p → IsNewOf (step_at c program m3 p).sent (element_at m3 p).issued u) n)
        (λ q r hq e own. new_is p q r (sym own ∙ sent_own c program m3 q r e) e)

    issue_listed_as : (p : ℕ) (o : Option Request) → p < size c → (step_at c program m3 p).sent ≡ o → IfSome o (λ (r : Request). (r.pe ≡ p) × IsIn (Issued r (element_at m3 p).issued) es)
    issue_listed_as p None hp e = tt
    issue_listed_as p (Some r) hp e =
        let f : ℕ → Option Event = λ q. issue_event (element_at m3 q) (step_at c program m3 q).sent in
        let here : f p ≡ Some (Issued r (element_at m3 p).issued) = ap (λ o. issue_event (element_at m3 p) o) e in
        (sent_own c program m3 p r e, in-present (Issued r (element_at m3 p).issued) (places (size c) f) (subst (λ o. IsIn o (places (size c) f)) here (in-places f (size c) p hp)))

    -- ---- its turn
    turns : (p : ℕ) (q : Core) → p < size c → Before p q → Turns c program is (issues_noted n es is) list (cells_after initial order) (λ z. element_at m z) (λ z. element_at (processor_phase c program m3) z) p q
    turns p q hp s =
        let one = turn c range.some_open program careful n es is list all_logged p (element_at m3 p).core (element_at m3 p).interface (element_at m3 p).issued q (all_new p) (issue_listed_as p (step_at c program m3 p).sent hp refl) (at_delivery p q hp s) in
        rw (element-processor_phase c program m3 p hp) one

    -- ---- a cycle
    served : (v : Para) → Stands n v → AreRelated c program is list (cells_after initial order) (λ p. element_at m p) (run_para c program v (map (λ (l : NamedRequest). l.pe) rest))
    served v w = serve_all c program is initial (λ p. element_at m p) rest h.order v w small_rest logged_rest once_order

    small_schedule : (ls : List NamedRequest) → AllByRecursion (λ (l : NamedRequest). l.pe < size c) ls → AllByRecursion (λ p. p < size c) (map (λ (l : NamedRequest). l.pe) ls)
    small_schedule [] k = tt
    small_schedule (l ∷ ls) k = (k.0, small_schedule ls k.1)

    next : (v : Para) → Stands n v → IsReachedFrom c program is (issues_noted n es is) list (cells_after initial order) (λ z. element_at m z) (λ z. element_at (processor_phase c program m3) z) v (Stands (suc n))
    next v w =
        let first = map (λ (l : NamedRequest). l.pe) rest in
        let r = all_turns c program is (issues_noted n es is) list (cells_after initial order) (λ z. element_at m z) (λ z. element_at (processor_phase c program m3) z) turns (run_para c program v first) (served v w) in
        record {
          schedule = first ++ r.schedule;
          elements = each-append (λ p. p < size c) first r.schedule (small_schedule rest small_rest) r.elements;
          there = rw (run-append c program first r.schedule v, next_issues, order_is, next_machine) r.there;
        }

  -- ---- at first
  start_core : (p : ℕ) → p < size c → core_at (start_para c) p ≡ fresh_core
  start_core p hp = places_at (size c) (λ z. fresh_core) p fresh_core hp

  stands-start : Stands 0 (start_para c)
  unfolding after history
  stands-start = record {
    long = length-places (size c * c.cells) (λ a. given_value c.initial a 0);
    wide = length-places (size c) (λ p. fresh_core);
    held = λ a h. places_at (size c * c.cells) (λ b. given_value c.initial b 0) a 0 h ∙ sym (given_is c.initial (λ b. 0) a);
    elements = λ p hp. rw (element-start c p hp, start_core p hp) (inl record { none = refl; same = refl; served = tt });
  }

  -- ---- all cycles
  record Reached (n : ℕ) : Type 0 where
    pub schedule : List ℕ
    pub elements : AllByRecursion (λ p. p < size c) schedule
    pub there : Stands n (run_para c program (start_para c) schedule)

  reached : (n : ℕ) → Reached n
  reached zero = record { schedule = []; elements = tt; there = stands-start }
  reached (suc n) =
      let r = reached n in
      let s = next n (run_para c program (start_para c) r.schedule) r.there in
      record {
        schedule = r.schedule ++ s.schedule;
        elements = each-append (λ p. p < size c) r.schedule s.schedule r.elements s.elements;
        there = subst (λ v. Stands (suc n) v) (sym (run-append c program r.schedule s.schedule (start_para c))) s.there;
      }

  -- ---- what the relation says of a processing element with no cell open
  waits_for_one : (is : List LoggedIssue) (p : ℕ) (now : Core) (os : List OpenCell) (k : ℕ) → IsWaiting c program is p now os k → os ≡ [] → ⊥
  waits_for_one is p now os k w e =
      let o = opening c program p w.before w.request w.sent in
      let one : OpenCell = record { cell = w.request.cell; target = o.target } in
      let both : ◌≡◌ {A = List OpenCell} (one ∷ []) [] = sym o.opened ∙ (w.opened ∙ e) in
      absurd cc

  same_core : (is : List LoggedIssue) (list : List Done) (p : ℕ) (now : Core) (os : List OpenCell) (k : ℕ) (q : Core) → State c program is list p now os k q → os ≡ [] → q ≡ now
  same_core js ds p now os k q (inl s) e = s.same
  same_core js ds p now os k q (inr (inl s)) e = absurd (waits_for_one js p now os k s.waiting e)
  same_core js ds p now os k q (inr (inr s)) e = absurd (waits_for_one js p now os k s.waiting e)

  pub is_reached : (n : ℕ) → IsReached c program (after c program n)
  is_reached n =
      let r = reached n in
      let v = run_para c program (start_para c) r.schedule in
      record {
        schedule = r.schedule;
        elements = all_of (λ p. p < size c) r.schedule r.elements;
        looks = record {
          cells = λ a h. r.there.held a h ∙ (serial_after c range program n).cells a;
          cores = λ p hp e. same_core (history c program n).log.issues (replayed initial (history c program n).order) p (element_at (after c program n) p).core (element_at (after c program n) p).interface.opened (element_at (after c program n) p).issued (core_at v p) (r.there.elements p hp) e;
        };
      }

-- the law
pub paracomputer : ParacomputerLaw
paracomputer c range program careful n = is_reached c range program careful n
