-- the deliveries of a cycle: they name open requests, and close their cells
use Rattle.std.proofs.Common.{ℕ, zero, suc, List, [], ◌∷◌, ◌++◌, ◌≡◌, ◌≢◌, ◌+◌, ◌-◌, ◌<◌, ◌≤◌, ◌^◌, true, length, refl, sym, ap, ◌∙◌, subst, length-set, get_or-set_other, length-append, arith}
use Rattle.std.proofs.{Math.Pow.pow_mono, lemmas.Bool.Decides.nat_tests}
use Rattle.std.specs.Prelude.{Option, Some, None, IfSome, map, slice_set, ◌==◌}
use Rattle.std.specs.List.{AllByRecursion, range_with_len}
use Rattle.ultra_msg.specs.declared.{Request.Request, ReplyMessage.ReplyMessage, Event.{Event, TheVariants.{Delivered, Served, Combined, Issued}}}
use Rattle.ultra_pni.specs.{declared.OpenCell.OpenCell, Interface.is_open}
use Rattle.ultra_isa.specs.declared.Instr.{Instr}
use Rattle.ultra_model.specs.{Machine.{Settings, Element, size, element_at}, Places.{places, present}, Phases.{after, delivery, deliver, issue_event}, Ranges.AreInRange, Balance.count}
use Rattle.ultra_model.proofs.Each.{each-append, each-present, each-places, each-weaker, places_at, length-places}
use Rattle.ultra_model.proofs.{ReplyBalance.delivered_open, Sound.after_is_sound}
use Rattle.ultra_latency.specs.{declared.open.OpenRequest.OpenRequest, Latency.{latencies_among, latencies_of}}
use Rattle.ultra_latency.specs.Open.{row, rows_with, request_for, without_request, open_requests, open_rows, rows_after, latencies_along, IsOpenIn, NameOpen}
use Rattle.ultra_latency.proofs.{Rows.IsNeutral, Few.present_short, OpenCells.{open_found, open_left}}
use Rattle.ultra_latency.proofs.CycleEvents.{before, brought, deliveries, others, issues, sent, requested, events_are, others_neutral}

abbrev pub IsNoDelivery : Event → Type 0
IsNoDelivery (Delivered r) = ⊥
IsNoDelivery (Served k r v now) = Unit {0}
IsNoDelivery (Combined s x a p q f) = Unit {0}
IsNoDelivery (Issued r n) = Unit {0}

neutral_is : (e : Event) → IsNeutral e → IsNoDelivery e
neutral_is (Delivered r) h = h
neutral_is (Served k r v now) h = tt
neutral_is (Combined s x a p q f) h = tt
neutral_is (Issued r n) h = tt

some_issue : (e : Element) (o : Option Request) → IfSome (issue_event e o) IsNoDelivery
some_issue e None = tt
some_issue e (Some r) = tt

-- ---- latencies of several events
module _ (n : ℕ) where
  module _ (c : Settings) (program : List Instr) where
    none_among : (es : List Event) → AllByRecursion IsNoDelivery es → latencies_among c program n es ≡ []
    none_among [] all = refl
    none_among (Delivered r ∷ es) all = absurd all.0
    none_among (Served k r v now ∷ es) all = none_among es all.1
    none_among (Combined s x a p q f ∷ es) all = none_among es all.1
    none_among (Issued r k ∷ es) all = none_among es all.1

    among_append : (xs ys : List Event) → latencies_among c program n (xs ++ ys) ≡ latencies_among c program n xs ++ latencies_among c program n ys
    among_append [] ys = refl
    among_append (Delivered r ∷ xs) ys = ap (λ t. latencies_among c program n (Delivered r ∷ []) ++ t) (among_append xs ys)
    among_append (Served k r v now ∷ xs) ys = among_append xs ys
    among_append (Combined s x a p q f ∷ xs) ys = among_append xs ys
    among_append (Issued r k ∷ xs) ys = among_append xs ys

    among_short : (es : List Event) → length (latencies_among c program n es) ≤ length es
    among_short [] = omega arith
    among_short (Delivered r ∷ es) = let rest = among_short es in omega (arith, rest)
    among_short (Served k r v now ∷ es) = let rest = among_short es in omega (arith, rest)
    among_short (Combined s x a p q f ∷ es) = let rest = among_short es in omega (arith, rest)
    among_short (Issued r k ∷ es) = let rest = among_short es in omega (arith, rest)

-- ---- events that name open requests
module _ (c : Settings) (program : List Instr) (cycle : ℕ) where
  pub named_append : (rows : List (List OpenRequest)) (xs ys : List Event) → NameOpen c program cycle rows xs → NameOpen c program cycle (rows_after cycle rows xs) ys → NameOpen c program cycle rows (xs ++ ys)
  named_append rows [] ys first second = second
  named_append rows (e ∷ es) ys first second = (first.0, named_append (rows_with cycle rows e) es ys first.1 second)

  -- their latencies are those of the definition
  pub latencies_named : (rows : List (List OpenRequest)) (es : List Event) → NameOpen c program cycle rows es → latencies_along cycle rows es ≡ latencies_among c program cycle es
  latencies_named rows [] all = refl
  latencies_named rows (Delivered r ∷ es) all =
      let found = all.0.1 in
      let rest = latencies_named (rows_with cycle rows (Delivered r)) es all.1 in
      rw (found, rest) refl
  latencies_named rows (Served k r v now ∷ es) all = latencies_named rows es all.1
  latencies_named rows (Combined s x a p q f ∷ es) all = latencies_named rows es all.1
  latencies_named rows (Issued r k ∷ es) all = latencies_named (rows_with cycle rows (Issued r k)) es all.1

-- ---- the deliveries to n processing elements from a on, each of a request that its row has
module _ (cycle : ℕ) (f : ℕ → Option ReplyMessage) (bound : ℕ) (own : (p : ℕ) → p < bound → IfSome (f p) (λ r. r.pe ≡ p)) where
  abbrev given : ℕ → ℕ → List Event
  given a n = present (map (λ p. delivery (f p)) (range_with_len a n))

  module _ (c : Settings) (program : List Instr) where
    abbrev Knows : List (List OpenRequest) → ℕ → Option ReplyMessage → Type 0
    Knows rows p o = IfSome o (λ r. IsOpenIn c program cycle rows p r.cell)

    -- a row that another event has changed
    knows_still : (rows : List (List OpenRequest)) (a p : ℕ) (os : List OpenRequest) → p ≢ a → (o : Option ReplyMessage) → Knows rows p o → Knows (slice_set rows a os) p o
    knows_still rows a p os other None h = tt
    knows_still rows a p os other (Some r) h =
        let long = length-set rows a os in
        (omega (arith, h.0, long), ap (request_for r.cell) (get_or-set_other rows a p os [] other) ∙ h.1)

    -- the first of them, before the others
    named_first : (rows : List (List OpenRequest)) (a : ℕ) (os : List (Option Event)) (o : Option ReplyMessage) → IfSome o (λ r. r.pe ≡ a) → Knows rows a o
        → NameOpen c program cycle rows (present os)
        → ((r : ReplyMessage) → o ≡ Some r → NameOpen c program cycle (rows_with cycle rows (Delivered r)) (present os))
        → NameOpen c program cycle rows (present (delivery o ∷ os))
    named_first rows a os None mine known none some = none
    named_first rows a os (Some r) mine known none some = (subst (λ p. IsOpenIn c program cycle rows p r.cell) (sym mine) known, some r refl)

    given_named : (n a : ℕ) (rows : List (List OpenRequest)) → a + n ≤ bound → ((p : ℕ) → a ≤ p → p < a + n → Knows rows p (f p)) → NameOpen c program cycle rows (given a n)
    given_named zero a rows within knows = tt
    given_named (suc n) a rows within knows =
        named_first rows a (map (λ p. delivery (f p)) (range_with_len (a + 1) n)) (f a) (own a (omega arith)) (knows a (omega arith) (omega arith))
        (given_named n (a + 1) rows (omega arith) (λ p from to. knows p (omega arith) (omega arith)))
        (λ r is.
        let mine : r.pe ≡ a = rw is at (own a (omega arith)) in
        given_named n (a + 1) (rows_with cycle rows (Delivered r)) (omega arith) (λ p from to.
        let other : p ≢ r.pe = omega (arith, mine, from) in
        knows_still rows r.pe p (without_request r.cell (row rows r.pe)) other (f p) (knows p (omega arith) (omega arith))))

-- ---- of a cycle
module _ (c : Settings) (range : AreInRange c) (program : List Instr) (n : ℕ) where
  -- a count that isn't 0 is of a cell that is open
  pub counted_open : (a : ℕ) (os : List OpenCell) → 1 ≤ count (λ (o : OpenCell). o.cell == a) os → is_open a os ≡ true
  counted_open a [] some = absurd (omega (arith, some))
  counted_open a (o ∷ os) some = let rest = counted_open a os in grind (arith, nat_tests)

  pub row_is : (p : ℕ) → p < size c → row (open_rows c program n) p ≡ open_requests c program n p (element_at (before c program n) p).interface.opened
  unfolding open_rows
  row_is p h = places_at (size c) (λ p. open_requests c program n p (element_at (before c program n) p).interface.opened) p [] h

  pub length_rows : length (open_rows c program n) ≡ size c
  unfolding open_rows
  length_rows = length-places (size c) _

  knows_from : (p : ℕ) → p < size c → (o : Option ReplyMessage) → IfSome o (λ (r : ReplyMessage). (r.pe ≡ p) × (1 ≤ count (λ (o : OpenCell). o.cell == r.cell) (element_at (before c program n) p).interface.opened)) → IfSome o (λ r. IsOpenIn c program n (open_rows c program n) p r.cell)
  knows_from p h None there = tt
  knows_from p h (Some r) there = (
    omega (arith, h, length_rows),
    ap (request_for r.cell) (row_is p h) ∙ open_found c program n p r.cell (element_at (before c program n) p).interface.opened (counted_open r.cell (element_at (before c program n) p).interface.opened there.1),
  )

  pub knows : (p : ℕ) → p < size c → IfSome (brought c program n p) (λ r. IsOpenIn c program n (open_rows c program n) p r.cell)
  knows p h = let sound = after_is_sound c range program n in knows_from p h (brought c program n p) (delivered_open c range (before c program n) sound.routes sound.balance p h)

  own_from : (p : ℕ) (o : Option ReplyMessage) → IfSome o (λ (r : ReplyMessage). (r.pe ≡ p) × (1 ≤ count (λ (o : OpenCell). o.cell == r.cell) (element_at (before c program n) p).interface.opened)) → IfSome o (λ (r : ReplyMessage). r.pe ≡ p)
  own_from p None h = tt
  own_from p (Some r) h = h.0

  pub brought_own : (p : ℕ) → p < size c → IfSome (brought c program n p) (λ (r : ReplyMessage). r.pe ≡ p)
  brought_own p h = let sound = after_is_sound c range program n in own_from p (brought c program n p) (delivered_open c range (before c program n) sound.routes sound.balance p h)

  -- what comes after the deliveries shows no latency
  rest : AllByRecursion IsNoDelivery (others c program n ++ issues c program n)
  rest =
      each-append IsNoDelivery (others c program n) (issues c program n)
      (each-weaker IsNeutral IsNoDelivery (others c program n) neutral_is (others_neutral c program n))
      (each-present IsNoDelivery _ (each-places (λ o. IfSome o IsNoDelivery) (size c) (λ p. issue_event (element_at (requested c program n) p) (sent c program n p)) (λ p h. some_issue (element_at (requested c program n) p) (sent c program n p))))

  pub delivered_named : NameOpen c program n (open_rows c program n) (deliveries c program n)
  unfolding places
  delivered_named = given_named n (brought c program n) (size c) brought_own c program (size c) 0 (open_rows c program n) (omega arith) (λ p from to. knows p (omega arith))

  -- at most one a processing element
  pub few_law : length (latencies_of c program n) ≤ 64
  few_law =
      let no = none_among n c program (others c program n ++ issues c program n) rest in
      let all = among_append n c program (deliveries c program n) (others c program n ++ issues c program n) in
      let short = among_short n c program (deliveries c program n) in
      let few = present_short (places (size c) (λ p. delivery (brought c program n p))) in
      let long = length-places (size c) (λ p. delivery (brought c program n p)) in
      let most : size c ≤ 2 ^ 6 = pow_mono range.most_stages in
      let parts = length-append (latencies_among c program n (deliveries c program n)) [] in
      rw (events_are c program n, all, no) (omega (arith, parts, short, few, long, most))

-- ---- the rows
-- what a delivery leaves of a row
abbrev pub left_out : Option ReplyMessage → List OpenRequest → List OpenRequest
left_out None os = os
left_out (Some r) os = without_request r.cell os

module _ (c : Settings) (program : List Instr) (n p : ℕ) where
  pub left_open : (e : Element) (o : Option ReplyMessage) → left_out o (open_requests c program n p e.interface.opened) ≡ open_requests c program n p (deliver e o).interface.opened
  left_open e None = refl
  left_open e (Some r) = open_left c program n p r.cell e.interface.opened
