-- each answer of a run finds its issue by its name
use Rattle.std.proofs.Common.{ℕ, ◌≡◌, ◌+◌, ◌<◌, List, [], ◌∷◌, ◌++◌, inl, inr, Bool, true, false, ◌&&◌, cond, map, append-nil, refl, sym, ap, ◌∙◌, subst, arith}
use Rattle.std.specs.Prelude.{Option, Some, None, IfSome, option_to_list, ◌==◌}
use Rattle.std.specs.List.{AllByRecursion, filter, find, flat_map}
use Rattle.std.proofs.lemmas.{Bool.eqb-true, List.Concat.flat_map-append}
use Rattle.ultra_msg.specs.declared.{ReplyMessage.ReplyMessage, Event.{Event, TheVariants.{Delivered, Served, Combined, Issued}}}
use Rattle.ultra_isa.specs.declared.Instr.{Instr}
use Rattle.ultra_model.specs.{Machine.{Settings, size}, Places.places, Phases.{after, delivery}, Ranges.AreInRange}
use Rattle.ultra_model.proofs.Each.{each-append, each-present, each-places, each-weaker}
use Rattle.ultra_serial_law.specs.{declared.records.{LoggedIssue.LoggedIssue, LoggedAnswer.LoggedAnswer}, Log.latest_number}
use Rattle.ultra_serial_law.proofs.{Answered.IsNoDelivery, Explained.IsIn}
use Rattle.ultra_latency.specs.declared.open.OpenRequest.{OpenRequest}
use Rattle.ultra_latency.specs.Open.{row, rows_with, request_for, open_request, open_rows, IsOpenIn, IsOpenLaw, NameOpen}
use Rattle.ultra_latency.proofs.{CycleEvents.{brought, deliveries, others, issues, events_are}, Deliveries.{brought_own, knows}, OwnIssues.own}
use Rattle.ultra_requests.specs.{RequestTable.{Row, answered_row, answered_rows, is_answer_to, row_line}, CycleRows.{answer_in, answers_of_cycle, log_after, rows_of_cycle}, Along.{along, answer_if, logged_issue, row_at}}
use Rattle.ultra_requests.proofs.{NamedLines.number_latest, Numbered.{as_open, open_issue}, Steps.{in_step, none_delivered}}

-- ---- an issue of a processing element
own_step : (p : ℕ) (x : LoggedIssue) (is : List LoggedIssue) (i : LoggedIssue) (b : Bool) → (x.pe == p) ≡ b → (IsIn i (own p is) → i.pe ≡ p) → IsIn i (cond b (x ∷ own p is) (own p is)) → i.pe ≡ p
own_step p x is i true e h (inl same) = ap (λ (j : LoggedIssue). j.pe) (sym same) ∙ eqb-true x.pe p e
own_step p x is i true e h (inr k) = h k
own_step p x is i false e h k = h k

pub own_pe : (p : ℕ) (is : List LoggedIssue) (i : LoggedIssue) → IsIn i (own p is) → i.pe ≡ p
own_pe p [] i k = absurd k
own_pe p (x ∷ is) i k = own_step p x is i (x.pe == p) refl (own_pe p is i) k

-- it is found by its name as by its number
pub find_own : (p n : ℕ) (is : List LoggedIssue) → find (λ (i : LoggedIssue). (i.pe == p) && (i.number == n)) is ≡ find (λ (i : LoggedIssue). i.number == n) (own p is)
find_own p n [] = refl
find_own p n (i ∷ is) = let rest = find_own p n is in grind arith

-- ---- of a cycle
module _ (c : Settings) (program : List Instr) (n : ℕ) where
  abbrev issues_before : List LoggedIssue
  issues_before = (log_after c program n).issues

  abbrev pub answer_of : ReplyMessage → LoggedAnswer
  answer_of r = record { pe = r.pe; number = latest_number r.pe r.cell issues_before 0; reply = r.reply; cycle = n }

  -- a delivery's answer finds its issue, which is an open request's
  abbrev pub IsFound : Event → Type 0
  IsFound (Delivered r) = find (λ i. is_answer_to i (answer_of r)) issues_before ≡ Some (logged_issue r.pe (open_request c program n r.pe r.cell))
  IsFound (Served k r v now) = Unit {0}
  IsFound (Combined s x a old new f) = Unit {0}
  IsFound (Issued r k) = Unit {0}

  nothing_found : (e : Event) → IsNoDelivery e → IsFound e
  nothing_found (Delivered r) h = absurd h
  nothing_found (Served k r v now) h = tt
  nothing_found (Combined s x a old new f) h = tt
  nothing_found (Issued r k) h = tt

  found_delivery : (o : Option ReplyMessage) → IfSome o (λ r. IsFound (Delivered r)) → IfSome (delivery o) IsFound
  found_delivery None h = tt
  found_delivery (Some r) h = h

  -- the row of a request that was answered
  one_row : (is : List LoggedIssue) (a : LoggedAnswer) (i : LoggedIssue) → find (λ j. is_answer_to j a) is ≡ Some i → flat_map row_line (answered_row is a) ≡ row_line record { issue = i; answer = Some a }
  one_row is a i e =
      let rows : Option LoggedIssue → List Row = λ o. map (λ j. record { issue = j; answer = Some a }) (option_to_list o) in
      ap (λ o. flat_map row_line (rows o)) e ∙ append-nil (row_line record { issue = i; answer = Some a })

  -- the rows that are written of events that name open requests
  pub rows_found : (rows : List (List OpenRequest)) (es : List Event) → NameOpen c program n rows es → AllByRecursion IsFound es → along row_at n rows es ≡ flat_map row_line (answered_rows issues_before (flat_map (answer_in n issues_before) es))
  rows_found rows [] named found = refl
  rows_found rows (Delivered r ∷ es) named found =
      let a = answer_of r in
      let rest = answered_rows issues_before (flat_map (answer_in n issues_before) es) in
      ap (λ o. answer_if n r o ++ along row_at n (rows_with n rows (Delivered r)) es) named.0.1
      ∙ ap (λ text. text ++ along row_at n (rows_with n rows (Delivered r)) es) (sym (one_row issues_before a (logged_issue r.pe (open_request c program n r.pe r.cell)) found.0))
      ∙ ap (λ text. flat_map row_line (answered_row issues_before a) ++ text) (rows_found (rows_with n rows (Delivered r)) es named.1 found.1)
      ∙ sym (flat_map-append row_line (answered_row issues_before a) rest)
  rows_found rows (Served k r v now ∷ es) named found = rows_found rows es named.1 found.1
  rows_found rows (Combined s x a old new f ∷ es) named found = rows_found rows es named.1 found.1
  rows_found rows (Issued r k ∷ es) named found = rows_found (rows_with n rows (Issued r k)) es named.1 found.1

module _ (c : Settings) (range : AreInRange c) (program : List Instr) (n : ℕ) where
  -- an open request is found among the issues by its name
  pub open_found_by_name : (p a : ℕ) → p < size c → IsOpenIn c program n (open_rows c program n) p a → find (λ (i : LoggedIssue). (i.pe == p) && (i.number == latest_number p a (log_after c program n).issues 0)) (log_after c program n).issues ≡ Some (logged_issue p (open_request c program n p a))
  open_found_by_name p a h known =
      let is = (log_after c program n).issues in
      let o = open_request c program n p a in
      let found = open_issue (in_step c range program n p h) a o known.1 in
      let i = found.0 in
      let pe : i.pe ≡ p = own_pe p is i found.1 in
      let same : i ≡ logged_issue p o = ap (λ q. logged_issue q (as_open i)) pe ∙ ap (logged_issue p) found.2 in
      find_own p (latest_number p a is 0) is
      ∙ ap (λ k. find (λ (j : LoggedIssue). j.number == k) (own p is)) (sym (number_latest c program n p a))
      ∙ found.3
      ∙ ap (λ j. Some j) same

  found_at : (p : ℕ) → p < size c → (o : Option ReplyMessage) → brought c program n p ≡ o → IfSome o (λ r. IsFound c program n (Delivered r))
  found_at p h None is = tt
  found_at p h (Some r) is =
      let known = subst (λ (o : Option ReplyMessage). IfSome o (λ r. IsOpenIn c program n (open_rows c program n) p r.cell)) is (knows c range program n p h) in
      let mine = subst (λ (o : Option ReplyMessage). IfSome o (λ r. r.pe ≡ p)) is (brought_own c range program n p h) in
      subst (λ q. find (λ (i : LoggedIssue). (i.pe == q) && (i.number == latest_number q r.cell (log_after c program n).issues 0)) (log_after c program n).issues ≡ Some (logged_issue q (open_request c program n q r.cell))) (sym mine)
      (open_found_by_name p r.cell h known)

  pub all_found : AllByRecursion (IsFound c program n) (after c program (n + 1)).events
  all_found =
      subst (λ es. AllByRecursion (IsFound c program n) es) (sym (events_are c program n))
      (each-append (IsFound c program n) (deliveries c program n) (others c program n ++ issues c program n)
      (each-present (IsFound c program n) _ (each-places (λ o. IfSome o (IsFound c program n)) (size c) (λ p. delivery (brought c program n p)) (λ p h. found_delivery c program n (brought c program n p) (found_at p h (brought c program n p) refl))))
      (each-weaker IsNoDelivery (IsFound c program n) (others c program n ++ issues c program n) (nothing_found c program n) (none_delivered c range program n)))

  cycle_rows : NameOpen c program n (open_rows c program n) (after c program (n + 1)).events → along row_at n (open_rows c program n) (after c program (n + 1)).events ≡ rows_of_cycle c program n
  unfolding rows_of_cycle
  cycle_rows named = rows_found c program n (open_rows c program n) (after c program (n + 1)).events named all_found

  -- of events that are those of the cycle
  pub rows_here : IsOpenLaw c program n → (es : List Event) → es ≡ (after c program (n + 1)).events → (rows : List (List OpenRequest)) → rows ≡ open_rows c program n → along row_at n rows es ≡ rows_of_cycle c program n
  rows_here law es is rows are =
      ap (λ r. along row_at n r es) are
      ∙ ap (along row_at n (open_rows c program n)) is
      ∙ cycle_rows law.named
