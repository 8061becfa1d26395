-- the replies that a run delivers are the answers of its log, each with its issue
use Rattle.std.proofs.Common.{◌≡◌, ℕ, zero, suc, ◌<◌, List, [], ◌∷◌, ◌++◌, refl, sym, ◌∙◌, ap, subst, append_assoc}
use Rattle.std.specs.List.{AllByRecursion}
use Rattle.std.proofs.lemmas.List.{append-nil}
use Rattle.ultra_msg.specs.declared.Event.{Event, TheVariants.{Delivered, Served, Combined, Issued}}
use Rattle.ultra_isa.specs.declared.Instr.{Instr}
use Rattle.ultra_model.specs.{Machine.{Settings, Machine}, Phases.{reply_phase, memory_phase, request_phase, cycle, after}, Ranges.AreInRange}
use Rattle.ultra_model.proofs.Each.{each-append, each-weaker}
use Rattle.ultra_serial_law.specs.{Log.{LoggedIssue, LoggedAnswer, latest_number}, Legal.{Entry as Done, Has, answered_by, leaf_of_entry, given}, SerialList.{History, noted, after_event, history}}
use Rattle.ultra_serial_law.specs.Replies.{Delivery, deliveries_in, deliveries, IsAnswerOf, AreAnswersOf, ReplyLaw}
use Rattle.ultra_serial_law.proofs.{Forest.leaf_of, RequestForest.in_holds, MemoryForest.noted-append, ProcessorForest.{issues_noted, noted_issues}, Named.{IsNoIssue, IsLogged}, Issued.{IsEarlier, each_issued, same_issues}, Answered.{DeliversWell, IsNoDelivery, same_answers}, Lists.{has_in, get_left, each_replayed}}
use Rattle.ultra_serial_law.proofs.Law.{IsSerial, list_of, deliveries as delivered_now, delivers_well, any_delivery, servings, each_serving, meetings, each_meeting, issues_of, events_of, serial_after}

-- ---- in order
answers_append : (is : List LoggedIssue) (ds es : List Delivery) (xs ys : List LoggedAnswer) → AreAnswersOf is ds xs → AreAnswersOf is es ys → AreAnswersOf is (ds ++ es) (xs ++ ys)
answers_append is [] es [] ys h g = g
answers_append is [] es (a ∷ xs) ys h g = absurd h
answers_append is (d ∷ ds) es [] ys h g = absurd h
answers_append is (d ∷ ds) es (a ∷ xs) ys h g = (h.0, answers_append is ds es xs ys h.1 g)

-- the issues grow
one_more : (is js : List LoggedIssue) (d : Delivery) (a : LoggedAnswer) → IsAnswerOf is d a → IsAnswerOf (is ++ js) d a
one_more is js d a h = let r = h.request in record {
  pe = h.pe;
  reply = h.reply;
  cycle = h.cycle;
  request = (r.0, (r.1.0, get_left is js r.1.0 r.0 r.1.1), r.2);
}

answers_more : (is js : List LoggedIssue) (ds : List Delivery) (xs : List LoggedAnswer) → AreAnswersOf is ds xs → AreAnswersOf (is ++ js) ds xs
answers_more is js [] [] h = tt
answers_more is js [] (a ∷ xs) h = absurd h
answers_more is js (d ∷ ds) [] h = absurd h
answers_more is js (d ∷ ds) (a ∷ xs) h = (one_more is js d a h.0, answers_more is js ds xs h.1)

more_issues : (n : ℕ) (es : List Event) (is : List LoggedIssue) → (js : List LoggedIssue) × (issues_noted n es is ≡ is ++ js)
more_issues n [] is = ([], sym (append-nil is))
more_issues n (Delivered r ∷ es) is = more_issues n es is
more_issues n (Served k r reply now ∷ es) is = more_issues n es is
more_issues n (Combined s x a p q f ∷ es) is = more_issues n es is
more_issues n (Issued r k ∷ es) is =
    let i : LoggedIssue = record { pe = r.pe; number = k; cell = r.cell; op = r.op; cycle = n } in
    let rest = more_issues n es (is ++ i ∷ []) in
    (i ∷ rest.0, rest.1 ∙ append_assoc is (i ∷ []) rest.0)

-- ---- deliveries of a cycle
-- the request of a delivery was issued before
abbrev IsDue : ℕ → List LoggedIssue → Event → Type 0
IsDue n is (Delivered r) = (i : LoggedIssue) × Has is i × (i.pe ≡ r.pe) × (i.number ≡ latest_number r.pe r.cell is 0) × (i.cell ≡ r.cell) × (i.cycle < n)
IsDue n is (Served k r reply now) = ⊥
IsDue n is (Combined s x a p q f) = ⊥
IsDue n is (Issued r k) = ⊥

due_answers : (n : ℕ) (es : List Event) (h : History) (ds : List Delivery) → AllByRecursion (IsDue n h.log.issues) es
    → AreAnswersOf h.log.issues ds h.log.answers → AreAnswersOf h.log.issues (ds ++ deliveries_in n es) (noted n es h).log.answers
due_answers n [] h ds z g = rw (append-nil ds) g
due_answers n (Delivered r ∷ es) h ds z g =
    let is = h.log.issues in
    let d : Delivery = record { message = r; cycle = n } in
    let x : LoggedAnswer = record { pe = r.pe; number = latest_number r.pe r.cell is 0; reply = r.reply; cycle = n } in
    let due = z.0 in
    let one : IsAnswerOf is d x = record {
      pe = refl;
      reply = refl;
      cycle = refl;
      request = (due.0, due.1, record { pe = due.2; number = due.3; cell = due.4; earlier = due.5 });
    } in
    subst (λ us. AreAnswersOf is us (noted n es (after_event n h (Delivered r))).log.answers) (append_assoc ds (d ∷ []) (deliveries_in n es))
    (due_answers n es (after_event n h (Delivered r)) (ds ++ d ∷ []) z.1 (answers_append is ds (d ∷ []) h.log.answers (x ∷ []) g (one, tt)))
due_answers n (Served k r reply now ∷ es) h ds z g = absurd z.0
due_answers n (Combined s x a p q f ∷ es) h ds z g = absurd z.0
due_answers n (Issued r k ∷ es) h ds z g = absurd z.0

deliveries-append : (n : ℕ) (es fs : List Event) → deliveries_in n (es ++ fs) ≡ deliveries_in n es ++ deliveries_in n fs
deliveries-append n [] fs = refl
deliveries-append n (Delivered r ∷ es) fs = ap (λ ds. record { message = r; cycle = n } ∷ ds) (deliveries-append n es fs)
deliveries-append n (Served k r reply now ∷ es) fs = deliveries-append n es fs
deliveries-append n (Combined s x a p q f ∷ es) fs = deliveries-append n es fs
deliveries-append n (Issued r k ∷ es) fs = deliveries-append n es fs

no_deliveries : (n : ℕ) (es : List Event) → AllByRecursion IsNoDelivery es → deliveries_in n es ≡ []
no_deliveries n [] z = refl
no_deliveries n (Delivered r ∷ es) z = absurd z.0
no_deliveries n (Served k r reply now ∷ es) z = no_deliveries n es z.1
no_deliveries n (Combined s x a p q f ∷ es) z = no_deliveries n es z.1
no_deliveries n (Issued r k ∷ es) z = no_deliveries n es z.1

-- first come all deliveries of the cycle, and then what delivers nothing
answers_noted : (n : ℕ) (es fs : List Event) (h : History) (ds : List Delivery) → AllByRecursion (IsDue n h.log.issues) es → AllByRecursion IsNoDelivery fs → (noted n es h).log.issues ≡ h.log.issues
    → AreAnswersOf h.log.issues ds h.log.answers → AreAnswersOf (noted n (es ++ fs) h).log.issues (ds ++ deliveries_in n (es ++ fs)) (noted n (es ++ fs) h).log.answers
answers_noted n es fs h ds z y same g =
    let k = noted n es h in
    let js = more_issues n fs k.log.issues in
    let issues : (noted n fs k).log.issues ≡ h.log.issues ++ js.0 = noted_issues n fs k ∙ (js.1 ∙ ap (λ is. is ++ js.0) same) in
    let deliveries_now : deliveries_in n (es ++ fs) ≡ deliveries_in n es = deliveries-append n es fs ∙ (ap (λ us. deliveries_in n es ++ us) (no_deliveries n fs y) ∙ append-nil (deliveries_in n es)) in
    let all = answers_more h.log.issues js.0 (ds ++ deliveries_in n es) k.log.answers (due_answers n es h ds z g) in
    rw (noted-append n es fs h, deliveries_now, issues, same_answers n fs k y) all

module _ (c : Settings) (range : AreInRange c) (program : List Instr) where
  module _ (n : ℕ) (m : Machine) (h : History) (w : IsSerial c n m h) where
    abbrev replied : Machine
    replied = reply_phase c m

    abbrev acted : Machine
    acted = memory_phase c replied

    abbrev asked : Machine
    asked = request_phase c acted

    -- the events of the cycle: deliveries, servings, combinations, issues
    abbrev deliveries_now : List Event
    deliveries_now = delivered_now c range program n m

    abbrev acts : List Event
    acts = servings c range program n replied

    abbrev meets : List Event
    meets = meetings c range program n acted

    abbrev asks : List Event
    asks = issues_of c range program n asked

    -- the entry of a delivery was issued
    entry_due : (e : Event) → DeliversWell h.log.issues (list_of c h) e → IsDue n h.log.issues e
    entry_due (Delivered r) k =
        let is = h.log.issues in
        let logged = each_replayed (IsLogged is) (given c.initial) h.order w.recorded.logged.order in
        let i = in_holds (λ (d : Done). IsLogged is (leaf_of_entry d)) (answered_by (leaf_of is r.pe r.cell) r.reply) (list_of c h) logged k in
        let earlier = in_holds (IsEarlier c m n) i.0 is w.recorded.issues i.1 in
        (i.0, has_in is i.0 i.1, i.2, i.3, i.4, earlier.cycle)
    entry_due (Served k r reply now) z = absurd z
    entry_due (Combined s x a p q f) z = absurd z
    entry_due (Issued r k) z = absurd z

    all_due : AllByRecursion (IsDue n h.log.issues) deliveries_now
    all_due = each-weaker (DeliversWell h.log.issues (list_of c h)) (IsDue n h.log.issues) deliveries_now entry_due (delivers_well c range program n m h w)

    -- what comes behind the deliveries
    abbrev others : List Event
    others = acts ++ (meets ++ asks)

    none_delivered : AllByRecursion IsNoDelivery others
    none_delivered =
        each-append IsNoDelivery acts (meets ++ asks) (each_serving c range program n IsNoDelivery replied (λ k a. tt))
        (each-append IsNoDelivery meets asks (each_meeting c range program n IsNoDelivery acted (λ s x a p q f. tt)) (each_issued c program asked IsNoDelivery (λ p r hp e. tt)))

    in_turn : (cycle c program m).events ≡ deliveries_now ++ others
    in_turn = events_of c range program n m ∙ (append_assoc (deliveries_now ++ acts) meets asks ∙ append_assoc deliveries_now acts (meets ++ asks))

    answers_next : (ds : List Delivery) → AreAnswersOf h.log.issues ds h.log.answers
        → AreAnswersOf (noted n (cycle c program m).events h).log.issues (ds ++ deliveries_in n (cycle c program m).events) (noted n (cycle c program m).events h).log.answers
    answers_next ds g =
        subst (λ es. AreAnswersOf (noted n es h).log.issues (ds ++ deliveries_in n es) (noted n es h).log.answers) (sym in_turn)
        (answers_noted n deliveries_now others h ds all_due none_delivered (same_issues n deliveries_now h (any_delivery c range program n IsNoIssue m (λ r. tt))) g)

  pub answers_after : (n : ℕ) → AreAnswersOf (history c program n).log.issues (deliveries c program n) (history c program n).log.answers
  unfolding after history deliveries
  answers_after zero = tt
  answers_after (suc n) = answers_next n (after c program n) (history c program n) (serial_after c range program n) (deliveries c program n) (answers_after n)

pub replies : ReplyLaw
replies c range program n = answers_after c range program n
