-- after every cycle the open requests of a processing element are its issues without an answer
use Rattle.std.proofs.Common.{ℕ, zero, suc, ◌≡◌, ◌≢◌, true, false, ◌+◌, ◌<◌, ◌≤◌, List, [], ◌∷◌, ◌++◌, append-nil, append_assoc, refl, sym, ap, ◌∙◌, subst, arith}
use Rattle.std.specs.{Prelude.{Option, Some, None, IfSome, ◌==◌}, List.{AllByRecursion, filter, flat_map}}
use Rattle.std.proofs.lemmas.{Bool.Decides.nat_tests, List.{Concat.flat_map-append, Elements.filter-append}}
use Rattle.ultra_msg.specs.declared.{Request.Request, ReplyMessage.ReplyMessage, Event.{Event, TheVariants.{Delivered, Served, Combined, Issued}}}
use Rattle.ultra_isa.specs.declared.Instr.{Instr}
use Rattle.ultra_model.specs.{Machine.{Settings, Element, size, element_at}, Places.{places, present}, Phases.{after, deliver, delivery, issue_event, issues_after}, Ranges.AreInRange}
use Rattle.ultra_model.proofs.{Each.{each-append, each-present, each-places, each-weaker, places_at}, AtPlaces.{element-reply_phase, element-memory_phase, element-request_phase, element-processor_phase}}
use Rattle.ultra_serial_law.specs.{declared.records.{LoggedIssue.LoggedIssue, LoggedAnswer.LoggedAnswer}, SerialList.{History, history, noted, after_event}, Log.latest_number}
use Rattle.ultra_serial_law.proofs.{MemoryForest.noted-append, Answered.{IsNoDelivery, same_answers}}
use Rattle.ultra_latency.specs.{declared.open.OpenRequest.OpenRequest, Open.{request_for, row, open_request, open_rows, IsOpenIn}}
use Rattle.ultra_latency.proofs.{Rows.IsNeutral, Deliveries.{brought_own, knows, left_out}, Issues.put_in, Places.row_next, OpenLaw.fresh_rows}
use Rattle.ultra_latency.proofs.CycleEvents.{before, replied, remembered, requested, brought, deliveries, others, issues, sent, next_is, events_are, others_neutral}
use Rattle.ultra_latency.proofs.OwnIssues.{IsNoIssue, shown_if, one_shown, own, logged_as, logged_if, next_number, next_history, own_next, first, middle}
use Rattle.ultra_requests.specs.CycleRows.{answer_in, answers_of_cycle, log_after}
use Rattle.ultra_requests.proofs.{NamedLines.number_latest, Numbered.{IsInStep, answered_step, issued_step}}

-- ---- the answers of a cycle
noted_answers : (n : ℕ) (es : List Event) (h : History) → AllByRecursion IsNoIssue es → (noted n es h).log.answers ≡ h.log.answers ++ flat_map (answer_in n h.log.issues) es
noted_answers n [] h all = sym (append-nil h.log.answers)
noted_answers n (Delivered r ∷ es) h all = noted_answers n es (after_event n h (Delivered r)) all.1 ∙ append_assoc h.log.answers (answer_in n h.log.issues (Delivered r)) (flat_map (answer_in n h.log.issues) es)
noted_answers n (Served k r v now ∷ es) h all = noted_answers n es (after_event n h (Served k r v now)) all.1
noted_answers n (Combined s x a old new f ∷ es) h all = noted_answers n es (after_event n h (Combined s x a old new f)) all.1
noted_answers n (Issued r k ∷ es) h all = absurd all.0

module _ {X : Type 0} (show : Event → List X) (none : (e : Event) → IsNoDelivery e → show e ≡ []) where
  pub none_shown : (es : List Event) → AllByRecursion IsNoDelivery es → flat_map show es ≡ []
  none_shown [] all = refl
  none_shown (e ∷ es) all = rw (none e all.0) (none_shown es all.1)

pub no_answer : (n : ℕ) (is : List LoggedIssue) (e : Event) → IsNoDelivery e → answer_in n is e ≡ []
no_answer n is (Delivered r) h = absurd h
no_answer n is (Served k r v now) h = refl
no_answer n is (Combined s x a old new f) h = refl
no_answer n is (Issued r k) h = refl

neutral_is : (e : Event) → IsNeutral e → IsNoDelivery e
neutral_is (Delivered r) h = h
neutral_is (Served k r v now) h = tt
neutral_is (Combined s x a p q f) h = tt
neutral_is (Issued r n) h = tt

some_issue : (e : Element) (o : Option Request) → IfSome (issue_event e o) IsNoDelivery
some_issue e None = tt
some_issue e (Some r) = tt

-- the answers to a processing element
abbrev pub own_answers : ℕ → List LoggedAnswer → List LoggedAnswer
own_answers p answers = filter (λ (a : LoggedAnswer). a.pe == p) answers

own_shown : (p : ℕ) (show : Event → List LoggedAnswer) (es : List Event) → own_answers p (flat_map show es) ≡ flat_map (λ e. own_answers p (show e)) es
own_shown p show [] = refl
own_shown p show (e ∷ es) = filter-append (λ (a : LoggedAnswer). a.pe == p) (show e) (flat_map show es) ∙ ap (λ xs. own_answers p (show e) ++ xs) (own_shown p show es)

abbrev pub answered_if : ℕ → List LoggedIssue → Option ReplyMessage → List LoggedAnswer
answered_if n is None = []
answered_if n is (Some r) = answer_in n is (Delivered r)

mine : (n p : ℕ) (is : List LoggedIssue) (o : Option ReplyMessage) → IfSome o (λ (r : ReplyMessage). r.pe ≡ p) → shown_if (λ e. own_answers p (answer_in n is e)) (delivery o) ≡ answered_if n is o
mine n p is None own = refl
mine n p is (Some r) own = let here : (r.pe == p) ≡ true = grind (arith, nat_tests, own) in rw here refl

not_mine : (n p q : ℕ) (is : List LoggedIssue) → q ≢ p → (o : Option ReplyMessage) → IfSome o (λ (r : ReplyMessage). r.pe ≡ q) → shown_if (λ e. own_answers p (answer_in n is e)) (delivery o) ≡ []
not_mine n p q is other None own = refl
not_mine n p q is other (Some r) own = let apart : (r.pe == p) ≡ false = grind (arith, nat_tests, own) in rw apart refl

module _ (c : Settings) (range : AreInRange c) (program : List Instr) (n : ℕ) where
  abbrev issues_before : List LoggedIssue
  issues_before = (log_after c program n).issues

  abbrev answers_before : List LoggedAnswer
  answers_before = (log_after c program n).answers

  none_issued : AllByRecursion IsNoDelivery (issues c program n)
  none_issued = each-present IsNoDelivery _ (each-places (λ o. IfSome o IsNoDelivery) (size c) (λ p. issue_event (element_at (requested c program n) p) (sent c program n p)) (λ p h. some_issue (element_at (requested c program n) p) (sent c program n p)))

  pub none_delivered : AllByRecursion IsNoDelivery (others c program n ++ issues c program n)
  none_delivered = each-append IsNoDelivery (others c program n) (issues c program n) (each-weaker IsNeutral IsNoDelivery (others c program n) neutral_is (others_neutral c program n)) none_issued

  -- what the events show that deliveries alone show
  pub shown_by : {X : Type 0} (show : Event → List X) → ((e : Event) → IsNoDelivery e → show e ≡ []) → flat_map show (after c program (n + 1)).events ≡ flat_map show (deliveries c program n)
  shown_by show none =
      ap (flat_map show) (events_are c program n)
      ∙ flat_map-append show (deliveries c program n) (others c program n ++ issues c program n)
      ∙ ap (λ xs. flat_map show (deliveries c program n) ++ xs) (none_shown show none (others c program n ++ issues c program n) none_delivered)
      ∙ append-nil (flat_map show (deliveries c program n))

  pub answers_next : (log_after c program (n + 1)).answers ≡ answers_before ++ answers_of_cycle c program n
  answers_next =
      let next : n + 1 ≡ suc n = omega arith in
      let h = history c program n in
      let show = answer_in n issues_before in
      let early = deliveries c program n ++ others c program n in
      let all = each-append IsNoIssue (deliveries c program n) (others c program n) (first c program n) (middle c program n) in
      let none_other = none_shown show (no_answer n issues_before) (others c program n) (each-weaker IsNeutral IsNoDelivery (others c program n) neutral_is (others_neutral c program n)) in
      let events = events_are c program n ∙ sym (append_assoc (deliveries c program n) (others c program n) (issues c program n)) in
      ap (λ k. (history c program k).log.answers) next
      ∙ ap (λ h. h.log.answers) (next_history c program n)
      ∙ ap (λ k. (noted n (after c program k).events h).log.answers) (sym next)
      ∙ ap (λ es. (noted n es h).log.answers) events
      ∙ ap (λ h. h.log.answers) (noted-append n early (issues c program n) h)
      ∙ same_answers n (issues c program n) (noted n early h) none_issued
      ∙ noted_answers n early h all
      ∙ ap (λ xs. answers_before ++ xs)
      (flat_map-append show (deliveries c program n) (others c program n)
      ∙ ap (λ xs. flat_map show (deliveries c program n) ++ xs) none_other
      ∙ append-nil (flat_map show (deliveries c program n))
      ∙ sym (shown_by show (no_answer n issues_before)))

  own_none : (p : ℕ) (e : Event) → IsNoDelivery e → own_answers p (answer_in n issues_before e) ≡ []
  own_none p e h = ap (own_answers p) (no_answer n issues_before e h)

  own_answered : (p : ℕ) → p < size c → own_answers p (answers_of_cycle c program n) ≡ answered_if n issues_before (brought c program n p)
  own_answered p h =
      let show : Event → List LoggedAnswer = λ e. own_answers p (answer_in n issues_before e) in
      own_shown p (answer_in n issues_before) (after c program (n + 1)).events
      ∙ shown_by show (own_none p)
      ∙ one_shown show (λ q. delivery (brought c program n q)) (size c) p h (λ q within other. not_mine n p q issues_before other (brought c program n q) (brought_own c range program n q within))
      ∙ mine n p issues_before (brought c program n p) (brought_own c range program n p h)

  own_answers_next : (p : ℕ) → p < size c → own_answers p (log_after c program (n + 1)).answers ≡ own_answers p answers_before ++ answered_if n issues_before (brought c program n p)
  own_answers_next p h =
      ap (own_answers p) answers_next
      ∙ filter-append (λ (a : LoggedAnswer). a.pe == p) answers_before (answers_of_cycle c program n)
      ∙ ap (λ xs. own_answers p answers_before ++ xs) (own_answered p h)

  -- ---- the number of the next issue
  same_issued : (e : Element) (o : Option ReplyMessage) → (deliver e o).issued ≡ e.issued
  same_issued e None = refl
  same_issued e (Some r) = refl

  number_before : (p : ℕ) → p < size c → next_number c program n p ≡ (element_at (before c program n) p).issued
  number_before p h =
      ap (λ (e : Element). e.issued) (element-request_phase c (remembered c program n) p h)
      ∙ ap (λ (e : Element). e.issued) (element-memory_phase c (replied c program n) p)
      ∙ ap (λ (e : Element). e.issued) (element-reply_phase c (before c program n) p h)
      ∙ same_issued (element_at (before c program n) p) (brought c program n p)

  number_after : (p : ℕ) → p < size c → (element_at (after c program (n + 1)) p).issued ≡ issues_after (next_number c program n p) (sent c program n p)
  number_after p h = ap (λ m. (element_at m p).issued) (next_is c program n) ∙ ap (λ (e : Element). e.issued) (element-processor_phase c program (requested c program n) p h)

-- ---- the steps of a cycle
same_step : (a b : ℕ) (is js : List LoggedIssue) (xs ys : List LoggedAnswer) (os us : List OpenRequest) → a ≡ b → is ≡ js → xs ≡ ys → os ≡ us → IsInStep a is xs os → IsInStep b js ys us
same_step a b is js xs ys os us e f g h s = rw (← e, ← f, ← g, ← h) s

module _ (n k : ℕ) {is : List LoggedIssue} {xs : List LoggedAnswer} {os : List OpenRequest} (are : IsInStep k is xs os) where
  deliver_step : (all : List LoggedIssue) (o : Option ReplyMessage) → IfSome o (λ (r : ReplyMessage). (u : OpenRequest) × (request_for r.cell os ≡ Some u) × (latest_number r.pe r.cell all 0 ≡ u.number)) → IsInStep k is (xs ++ answered_if n all o) (left_out o os)
  deliver_step all None known = rw (append-nil xs) are
  deliver_step all (Some r) known = answered_step are r.cell known.0 record { pe = r.pe; number = latest_number r.pe r.cell all 0; reply = r.reply; cycle = n } known.1 known.2

  issue_step : (o : Option Request) → IsInStep (issues_after k o) (is ++ logged_if n k o) xs (put_in n k o os)
  issue_step None = rw (append-nil is) are
  issue_step (Some r) = issued_step are (logged_as n r k) refl

module _ (c : Settings) (range : AreInRange c) (program : List Instr) where
  abbrev AreInStep : ℕ → ℕ → Type 0
  AreInStep n p = IsInStep (element_at (after c program n) p).issued (own p (log_after c program n).issues) (own_answers p (log_after c program n).answers) (row (open_rows c program n) p)

  first_step : (p : ℕ) → p < size c → AreInStep 0 p
  unfolding history
  first_step p h = same_step _ _ [] [] [] [] [] (row (open_rows c program 0) p) refl refl refl (sym (ap (λ rows. row rows p) (fresh_rows c program) ∙ places_at (size c) (λ p. []) p [] h)) record { ascending = omega arith; below = tt; left = refl; once = λ k. omega arith }

  -- the request of a delivery
  delivered_known : (n p : ℕ) → p < size c → (o : Option ReplyMessage) → brought c program n p ≡ o → IfSome o (λ (r : ReplyMessage). (u : OpenRequest) × (request_for r.cell (row (open_rows c program n) p) ≡ Some u) × (latest_number r.pe r.cell (log_after c program n).issues 0 ≡ u.number))
  delivered_known n p h None is = tt
  delivered_known n p h (Some r) is =
      let known = subst (λ (o : Option ReplyMessage). IfSome o (λ r. IsOpenIn c program n (open_rows c program n) p r.cell)) is (knows c range program n p h) in
      let mine = subst (λ (o : Option ReplyMessage). IfSome o (λ r. r.pe ≡ p)) is (brought_own c range program n p h) in
      (open_request c program n p r.cell, known.1, ap (λ q. latest_number q r.cell (log_after c program n).issues 0) mine ∙ sym (number_latest c program n p r.cell))

  next_step : (n p : ℕ) → p < size c → AreInStep n p → AreInStep (n + 1) p
  next_step n p h are =
      let k = next_number c program n p in
      let now = same_step _ k _ _ _ _ _ _ (sym (number_before c range program n p h)) refl refl refl are in
      let delivered = deliver_step n k now (log_after c program n).issues (brought c program n p) (delivered_known n p h (brought c program n p) refl) in
      let sends = issue_step n k delivered (sent c program n p) in
      same_step _ _ _ _ _ _ _ _ (sym (number_after c range program n p h)) (sym (own_next c program n p h)) (sym (own_answers_next c range program n p h)) (sym (row_next c range program n p h)) sends

  pub in_step : (n p : ℕ) → p < size c → AreInStep n p
  in_step zero p h = first_step p h
  in_step (suc n) p h = let next : n + 1 ≡ suc n = omega arith in subst (λ k. AreInStep k p) next (next_step n p h (in_step n p h))
