-- the events of a cycle find their places among the rows
use Rattle.std.proofs.Common.{ℕ, List, [], ◌∷◌, ◌++◌, ◌≡◌, ◌+◌, ◌<◌, ◌≤◌, length, refl, sym, ap, ◌∙◌, subst, arith}
use Rattle.std.proofs.lemmas.List.{length-map}
use Rattle.std.specs.Prelude.{Option, Some, None, IfSome, map, slice_set}
use Rattle.ultra_msg.specs.declared.{Request.Request, ReplyMessage.ReplyMessage, Event.{Event, TheVariants.{Delivered, Served, Combined, Issued}}}
use Rattle.ultra_pni.specs.{declared.OpenCell.OpenCell, Interface.Interface}
use Rattle.ultra_isa.specs.declared.Instr.{Instr}
use Rattle.ultra_isa.proofs.Steps.{SendsInto}
use Rattle.ultra_model.specs.{Machine.{Settings, Element, size, site, element_at}, Places.places, Ranges.AreInRange}
use Rattle.ultra_model.specs.Phases.{after, delivery, deliver, issue_event, step_at, processor_phase}
use Rattle.ultra_model.proofs.{Each.{places_at, length-places}, AtPlaces.{element-reply_phase, element-memory_phase, element-request_phase, element-processor_phase}}
use Rattle.ultra_latency.specs.declared.open.OpenRequest.{OpenRequest}
use Rattle.ultra_latency.specs.Open.{row, rows_with, rows_after, open_request, open_requests, open_rows, HasPlace, HavePlaces}
use Rattle.ultra_latency.proofs.{Rows.{rows_append, places_append, length_after, neutral_rows, neutral_places}, OwnRows.{those, inside, those_fit}, Deliveries.{left_out, left_open, length_rows, row_is, brought_own}, OwnIssues.{next_number, sent_own, step_sends}, Issues.{put_in, put_new}}
use Rattle.ultra_latency.proofs.CycleEvents.{before, replied, remembered, requested, brought, deliveries, others, issues, sent, next_is, events_are, others_neutral}

-- ---- one event, and its processing element's row
delivered_own : (cycle p : ℕ) (o : Option ReplyMessage) → IfSome o (λ (r : ReplyMessage). r.pe ≡ p) → (e : Event) → delivery o ≡ Some e → (rows : List (List OpenRequest)) → rows_with cycle rows e ≡ slice_set rows p (left_out o (row rows p))
delivered_own cycle p None own e is rows = cc
delivered_own cycle p (Some r) own e is rows =
    let same : e ≡ Delivered r = cc in
    rw same (ap (λ q. slice_set rows q (left_out (Some r) (row rows q))) own)

delivered_still : (o : Option ReplyMessage) → delivery o ≡ None → (os : List OpenRequest) → os ≡ left_out o os
delivered_still None is os = refl
delivered_still (Some r) is os = cc

delivered_fits : (p : ℕ) (o : Option ReplyMessage) → IfSome o (λ (r : ReplyMessage). r.pe ≡ p) → (e : Event) → delivery o ≡ Some e → (rows : List (List OpenRequest)) → p < length rows → HasPlace rows e
delivered_fits p None own e is rows h = cc
delivered_fits p (Some r) own e is rows h =
    let same : e ≡ Delivered r = cc in
    rw same (omega (arith, own, h))

module _ (n : ℕ) where
  issued_own : (p : ℕ) (x : Element) (o : Option Request) → IfSome o (λ (r : Request). r.pe ≡ p) → (e : Event) → issue_event x o ≡ Some e → (rows : List (List OpenRequest)) → rows_with n rows e ≡ slice_set rows p (put_in n x.issued o (row rows p))
  issued_own p x None own e is rows = cc
  issued_own p x (Some r) own e is rows =
      let same : e ≡ Issued r x.issued = cc in
      rw same (ap (λ q. slice_set rows q (put_in n x.issued (Some r) (row rows q))) own)

  issued_still : (x : Element) (o : Option Request) → issue_event x o ≡ None → (os : List OpenRequest) → os ≡ put_in n x.issued o os
  issued_still x None is os = refl
  issued_still x (Some r) is os = cc

issued_fits : (p : ℕ) (x : Element) (o : Option Request) → IfSome o (λ (r : Request). r.pe ≡ p) → (e : Event) → issue_event x o ≡ Some e → (rows : List (List OpenRequest)) → p < length rows → IfSome o (λ (r : Request). length (row rows p) < 8) → HasPlace rows e
issued_fits p x None own e is rows h room = cc
issued_fits p x (Some r) own e is rows h room =
    let same : e ≡ Issued r x.issued = cc in
    rw same (omega (arith, own, h), rw own room)

-- an issue finds fewer cells open than there may be
room_from : (c : Settings) (p : ℕ) (i j : Interface) (o : Option Request) → c.most_open ≤ 8 → SendsInto (site c p) c.most_open i j o → (os : List OpenRequest) → length os ≡ length i.opened → IfSome o (λ (r : Request). length os < 8)
room_from c p i j None few into os long = tt
room_from c p i j (Some r) few into os long = omega (arith, few, into.3, long)

module _ (c : Settings) (range : AreInRange c) (program : List Instr) (n : ℕ) where
  abbrev first : List (List OpenRequest)
  first = open_rows c program n

  abbrev pub second : List (List OpenRequest)
  second = rows_after n first (deliveries c program n)

  pub long_second : length second ≡ size c
  long_second = length_after n first (deliveries c program n) ∙ length_rows c range program n

  -- ---- the cells that are open after the deliveries, and after the cycle
  pub left_is : (p : ℕ) → p < size c → (element_at (requested c program n) p).interface.opened ≡ (deliver (element_at (before c program n) p) (brought c program n p)).interface.opened
  left_is p h =
      ap (λ (e : Element). e.interface.opened) (element-request_phase c (remembered c program n) p h)
      ∙ ap (λ (e : Element). e.interface.opened) (element-memory_phase c (replied c program n) p)
      ∙ ap (λ (e : Element). e.interface.opened) (element-reply_phase c (before c program n) p h)

  next_opened : (p : ℕ) → p < size c → (element_at (after c program (n + 1)) p).interface.opened ≡ (step_at c program (requested c program n) p).interface.opened
  next_opened p h = ap (λ m. (element_at m p).interface.opened) (next_is c program n) ∙ ap (λ (e : Element). e.interface.opened) (element-processor_phase c program (requested c program n) p h)

  -- ---- the deliveries
  left_row : (p : ℕ) → p < size c → row second p ≡ left_out (brought c program n p) (row first p)
  unfolding places
  left_row p h =
      let event : ℕ → Option Event = λ q. delivery (brought c program n q) in
      inside n event (λ q os. left_out (brought c program n q) os) (size c)
      (λ q within e is rows. delivered_own n q (brought c program n q) (brought_own c range program n q within) e is rows)
      (λ q is os. delivered_still (brought c program n q) is os)
      (size c) 0 p first (omega arith) (omega arith) (omega arith) (omega (arith, length_rows c range program n))

  pub second_row : (p : ℕ) → p < size c → row second p ≡ open_requests c program n p (element_at (requested c program n) p).interface.opened
  second_row p h =
      left_row p h
      ∙ ap (left_out (brought c program n p)) (row_is c range program n p h)
      ∙ left_open c program n p (element_at (before c program n) p) (brought c program n p)
      ∙ ap (open_requests c program n p) (sym (left_is p h))

  deliveries_fit : HavePlaces n first (deliveries c program n)
  unfolding places
  deliveries_fit =
      let event : ℕ → Option Event = λ q. delivery (brought c program n q) in
      those_fit n event (λ q os. left_out (brought c program n q) os) (size c)
      (λ q within e is rows. delivered_own n q (brought c program n q) (brought_own c range program n q within) e is rows)
      (λ q is os. delivered_still (brought c program n q) is os)
      (λ q os. Unit {0})
      (λ q within e is rows here all. delivered_fits q (brought c program n q) (brought_own c range program n q within) e is rows here)
      (size c) 0 first (omega arith) (omega (arith, length_rows c range program n)) (λ q from to. tt)

  -- ---- the issues
  third_row : (p : ℕ) → p < size c → row (rows_after n second (issues c program n)) p ≡ put_in n (next_number c program n p) (sent c program n p) (row second p)
  unfolding places
  third_row p h =
      let event : ℕ → Option Event = λ q. issue_event (element_at (requested c program n) q) (sent c program n q) in
      inside n event (λ q os. put_in n (next_number c program n q) (sent c program n q) os) (size c)
      (λ q within e is rows. issued_own n q (element_at (requested c program n) q) (sent c program n q) (sent_own c program n q) e is rows)
      (λ q is os. issued_still n (element_at (requested c program n) q) (sent c program n q) is os)
      (size c) 0 p second (omega arith) (omega arith) (omega arith) (omega (arith, long_second))

  issues_fit : HavePlaces n second (issues c program n)
  unfolding places
  issues_fit =
      let event : ℕ → Option Event = λ q. issue_event (element_at (requested c program n) q) (sent c program n q) in
      those_fit n event (λ q os. put_in n (next_number c program n q) (sent c program n q) os) (size c)
      (λ q within e is rows. issued_own n q (element_at (requested c program n) q) (sent c program n q) (sent_own c program n q) e is rows)
      (λ q is os. issued_still n (element_at (requested c program n) q) (sent c program n q) is os)
      (λ q os. IfSome (sent c program n q) (λ (r : Request). length os < 8))
      (λ q within e is rows here room. issued_fits q (element_at (requested c program n) q) (sent c program n q) (sent_own c program n q) e is rows here room)
      (size c) 0 second (omega arith) (omega (arith, long_second))
      (λ q from to.
      let within : q < size c = omega arith in
      let long = ap length (second_row q within) ∙ length-map (element_at (requested c program n) q).interface.opened (λ (o : OpenCell). open_request c program n q o.cell) in
      room_from c q _ _ (sent c program n q) range.few_open (step_sends c program n q) (row second q) long)

  pub places_law : HavePlaces n first (after c program (n + 1)).events
  places_law =
      let quiet = neutral_rows n second (others c program n) (others_neutral c program n) in
      subst (HavePlaces n first) (sym (events_are c program n))
      (places_append n first (deliveries c program n) (others c program n ++ issues c program n) deliveries_fit
      (places_append n second (others c program n) (issues c program n) (neutral_places n second (others c program n) (others_neutral c program n))
      (subst (λ rows. HavePlaces n rows (issues c program n)) (sym quiet) issues_fit)))

  -- ---- the rows after the cycle
  next_row : (p : ℕ) → p < size c → row (open_rows c program (n + 1)) p ≡ open_requests c program (n + 1) p (element_at (after c program (n + 1)) p).interface.opened
  unfolding open_rows
  next_row p h = places_at (size c) (λ q. open_requests c program (n + 1) q (element_at (after c program (n + 1)) q).interface.opened) p [] h

  pub made_row : (p : ℕ) → p < size c → row (rows_after n second (issues c program n)) p ≡ row (open_rows c program (n + 1)) p
  made_row p h =
      third_row p h
      ∙ ap (put_in n (next_number c program n p) (sent c program n p)) (second_row p h)
      ∙ put_new c program n p h _ _ (sent c program n p) refl (step_sends c program n p)
      ∙ ap (open_requests c program (n + 1) p) (sym (next_opened p h))
      ∙ sym (next_row p h)

  -- a delivery takes its request out of the row, and an issue comes behind
  pub row_next : (p : ℕ) → p < size c → row (open_rows c program (n + 1)) p ≡ put_in n (next_number c program n p) (sent c program n p) (left_out (brought c program n p) (row first p))
  row_next p h = sym (made_row p h) ∙ third_row p h ∙ ap (put_in n (next_number c program n p) (sent c program n p)) (left_row p h)

  pub length_made : length (rows_after n second (issues c program n)) ≡ size c
  length_made = length_after n second (issues c program n) ∙ long_second

  pub rows_are : rows_after n first (after c program (n + 1)).events ≡ rows_after n second (issues c program n)
  rows_are =
      let quiet = neutral_rows n second (others c program n) (others_neutral c program n) in
      ap (rows_after n first) (events_are c program n)
      ∙ rows_append n first (deliveries c program n) (others c program n ++ issues c program n)
      ∙ rows_append n second (others c program n) (issues c program n)
      ∙ ap (λ rows. rows_after n rows (issues c program n)) quiet
