-- the events of a cycle name open requests
use Rattle.std.proofs.Common.{ℕ, List, [], ◌∷◌, ◌++◌, ◌≡◌, ◌≢◌, ◌+◌, ◌<◌, ◌≤◌, inl, inr, Bool, true, refl, sym, ap, ◌∙◌, subst, arith}
use Rattle.std.proofs.lemmas.Bool.{cases_lt}
use Rattle.std.specs.{Prelude.{Option, Some, None, IfSome, ◌==◌}, List.AllByRecursion}
use Rattle.ultra_msg.specs.declared.{Request.Request, ReplyMessage.ReplyMessage, Event.{Event, TheVariants.{Delivered, Served, Combined, Issued}}}
use Rattle.ultra_mem.specs.{declared.Placed.Placed, Serve.{ModuleState, act_of, served}}
use Rattle.ultra_pni.specs.declared.OpenCell.{OpenCell}
use Rattle.ultra_isa.specs.declared.Instr.{Instr}
use Rattle.ultra_model.specs.Machine.{Settings, Machine, Element, size, lane_at, replies_at, module_at, element_at}
use Rattle.ultra_model.specs.{Places.{places, present}, Phases.{after, serving, issue_event, processor_phase}, Ranges.AreInRange}
use Rattle.ultra_model.specs.Balance.{weight, count, count_option, total, reply_passes, lane_on_way, module_on_way, opened_by, on_way, all_opened, IsBalanced}
use Rattle.ultra_model.proofs.{Each.{each-append, each-left, each-right, each-present, each-places}, Sums.total_zero, Neighbours.other, Counting.{is_reference, none_false}, ReplyBalance.opened_once, Sound.{after_is_sound, sound-reply_phase, sound-memory_phase, sound-request_phase}, AtPlaces.{element-memory_phase, element-request_phase}}
use Rattle.ultra_serial_law.proofs.{Tidy.{total_most, that_is, tidy-reply_phase, tidy-memory_phase}, Mentions.{mention, mentions, mention_some, present_mentions, sum-places}, RequestForest.all_parts, Law.serial_after}
use Rattle.ultra_latency.specs.declared.open.OpenRequest.{OpenRequest}
use Rattle.ultra_latency.specs.Open.{open_requests, open_rows, request_for, rows_with, rows_after, IsOpenIn, NamesOpen, NameOpen}
use Rattle.ultra_latency.proofs.{Rows.{IsNeutral, neutral_rows}, OpenCells.open_found, Deliveries.{counted_open, delivered_named, named_append}, Places.{second, long_second, second_row}}
use Rattle.ultra_latency.proofs.CycleEvents.{before, replied, remembered, requested, brought, deliveries, servings, meetings, others, issues, sent, events_are, others_neutral}

-- ---- a reference that is on its way is open
module _ (c : Settings) (range : AreInRange c) (m : Machine) (b : IsBalanced c m) where
  abbrev IsOpenAt : ℕ → ℕ → Type 0
  IsOpenAt p a = (p < size c) × (1 ≤ count (λ (o : OpenCell). o.cell == a) (element_at m p).interface.opened)

  on_way_open : (p a : ℕ) → 1 ≤ on_way (is_reference p a) c m → IsOpenAt p a
  on_way_open p a some =
      let even = b.balanced (is_reference p a) in
      elim (cases_lt p (size c)) [
        | inl within ↦ (within, omega (arith, some, even, opened_once c range m p a within))
        | inr out ↦
            let none : all_opened (is_reference p a) c m ≡ 0 = total_zero (size c) (λ q. opened_by (is_reference p a) q (element_at m q)) (λ q l. rw (other q p (omega arith)) (none_false (element_at m q).interface.opened)) in
            absurd (omega (arith, some, even, none))
      ]

-- ---- what acts and combinations name is on its way
module _ (t : ℕ → ℕ → Bool) where
  act_mention : (k : ℕ) (b : ModuleState) (o : Option Placed) → mention_some t (serving k (act_of b o)) ≤ count_option (λ (p : Placed). t p.request.pe p.request.cell) o
  act_mention k b None = omega arith
  act_mention k b (Some p) = omega arith

  served_if : (k : ℕ) (b : ModuleState) (out : Option ReplyMessage) → mention_some t (serving k (act_of b (elim out [ None ↦ b.inp | Some r ↦ None ]))) ≤ count_option (λ (p : Placed). t p.request.pe p.request.cell) b.inp + count_option (reply_passes t) out
  served_if k b None = omega (arith, act_mention k b b.inp)
  served_if k b (Some r) = omega arith

  served_mention : (k : ℕ) (b : ModuleState) → mention_some t (serving k (served b)) ≤ module_on_way t b
  served_mention k b = served_if k b b.out

  module _ (c : Settings) (range : AreInRange c) (program : List Instr) (n : ℕ) where
    servings_way : mentions t (servings c program n) ≤ on_way t c (replied c program n)
    servings_way =
        let all = present_mentions t (places (size c) (λ k. serving k (served (module_at (replied c program n) k)))) in
        let sum = sum-places (mention_some t) (size c) (λ k. serving k (served (module_at (replied c program n) k))) in
        let most = total_most (size c) (λ k. module_on_way t (module_at (replied c program n) k)) (λ k. mention_some t (serving k (served (module_at (replied c program n) k)))) (λ k h. served_mention k (module_at (replied c program n) k)) in
        omega (arith, all, sum, most)

    meetings_way : mentions t (meetings c program n) ≤ on_way t c (requested c program n)
    meetings_way =
        let serial = serial_after c range program n in
        let second = sound-reply_phase c range (before c program n) serial.sound in
        let third = sound-memory_phase c range (replied c program n) second in
        let tidy = tidy-memory_phase c (replied c program n) (tidy-reply_phase c range (before c program n) serial.sound.routes serial.sound.balance serial.tidy) in
        let parts = all_parts c range (remembered c program n) third.routes third.balance tidy t in
        omega (arith, parts)

-- ---- events by what they mention
module _ (c : Settings) (program : List Instr) (n : ℕ) (rows : List (List OpenRequest)) where
  -- neither a delivery nor an issue
  named_mentioned : (es : List Event) → AllByRecursion IsNeutral es → ((p a : ℕ) → 1 ≤ mentions (is_reference p a) es → IsOpenIn c program n rows p a) → AllByRecursion (NamesOpen c program n rows) es
  named_mentioned [] all known = tt
  named_mentioned (Delivered r ∷ es) all known = absurd all.0
  named_mentioned (Served k r v now ∷ es) all known =
      let here = ap weight (that_is r.pe r.cell) in
      (known r.pe r.cell (omega (arith, here)), named_mentioned es all.1 (λ p a some. known p a (omega (arith, some))))
  named_mentioned (Combined s x a p q f ∷ es) all known =
      let old = ap weight (that_is p a) in
      let new = ap weight (that_is q a) in
      ((known p a (omega (arith, old)), known q a (omega (arith, new))), named_mentioned es all.1 (λ p a some. known p a (omega (arith, some))))
  named_mentioned (Issued r k ∷ es) all known = absurd all.0

  named_neutral : (es : List Event) → AllByRecursion IsNeutral es → AllByRecursion (NamesOpen c program n rows) es → NameOpen c program n rows es
  named_neutral [] all names = tt
  named_neutral (Delivered r ∷ es) all names = absurd all.0
  named_neutral (Served k r v now ∷ es) all names = (names.0, named_neutral es all.1 names.1)
  named_neutral (Combined s x a p q f ∷ es) all names = (names.0, named_neutral es all.1 names.1)
  named_neutral (Issued r k ∷ es) all names = absurd all.0

abbrev IsIssue : Event → Type 0
IsIssue (Delivered r) = ⊥
IsIssue (Served k r v now) = ⊥
IsIssue (Combined s x a p q f) = ⊥
IsIssue (Issued r k) = Unit {0}

some_issue : (e : Element) (o : Option Request) → IfSome (issue_event e o) IsIssue
some_issue e None = tt
some_issue e (Some r) = tt

named_issues : (c : Settings) (program : List Instr) (n : ℕ) (rows : List (List OpenRequest)) (es : List Event) → AllByRecursion IsIssue es → NameOpen c program n rows es
named_issues c program n rows [] all = tt
named_issues c program n rows (Delivered r ∷ es) all = absurd all.0
named_issues c program n rows (Served k r v now ∷ es) all = absurd all.0
named_issues c program n rows (Combined s x a p q f ∷ es) all = absurd all.0
named_issues c program n rows (Issued r k ∷ es) all = (tt, named_issues c program n (rows_with n rows (Issued r k)) es all.1)

-- ---- of a cycle
module _ (c : Settings) (range : AreInRange c) (program : List Instr) (n : ℕ) where
  second_open : (p a : ℕ) → p < size c → 1 ≤ count (λ (o : OpenCell). o.cell == a) (element_at (requested c program n) p).interface.opened → IsOpenIn c program n (second c range program n) p a
  second_open p a h some =
      let long = long_second c range program n in
      let opened = (element_at (requested c program n) p).interface.opened in
      (omega (arith, h, long), ap (request_for a) (second_row c range program n p h) ∙ open_found c program n p a opened (counted_open c range program n a opened some))

  -- memory and the network leave the open cells as they are
  same_opened : (p a : ℕ) → p < size c → count (λ (o : OpenCell). o.cell == a) (element_at (replied c program n) p).interface.opened ≡ count (λ (o : OpenCell). o.cell == a) (element_at (requested c program n) p).interface.opened
  same_opened p a h =
      sym
      (ap (λ (e : Element). count (λ (o : OpenCell). o.cell == a) e.interface.opened) (element-request_phase c (remembered c program n) p h)
      ∙ ap (λ (e : Element). count (λ (o : OpenCell). o.cell == a) e.interface.opened) (element-memory_phase c (replied c program n) p))

  servings_name : AllByRecursion (NamesOpen c program n (second c range program n)) (servings c program n)
  servings_name =
      named_mentioned c program n (second c range program n) (servings c program n)
      (each-left IsNeutral (servings c program n) (meetings c program n) (others_neutral c program n))
      (λ p a some.
      let way = servings_way (is_reference p a) c range program n in
      let found = on_way_open c range (replied c program n) (sound-reply_phase c range (before c program n) (after_is_sound c range program n)).balance p a (omega (arith, some, way)) in
      second_open p a found.0 (omega (arith, found.1, same_opened p a found.0)))

  meetings_name : AllByRecursion (NamesOpen c program n (second c range program n)) (meetings c program n)
  meetings_name =
      named_mentioned c program n (second c range program n) (meetings c program n)
      (each-right IsNeutral (servings c program n) (meetings c program n) (others_neutral c program n))
      (λ p a some.
      let way = meetings_way (is_reference p a) c range program n in
      let sound = sound-request_phase c range (remembered c program n) (sound-memory_phase c range (replied c program n) (sound-reply_phase c range (before c program n) (after_is_sound c range program n))) in
      let found = on_way_open c range (requested c program n) sound.balance p a (omega (arith, some, way)) in
      second_open p a found.0 found.1)

  all_issues : AllByRecursion IsIssue (issues c program n)
  all_issues = each-present IsIssue _ (each-places (λ o. IfSome o IsIssue) (size c) (λ p. issue_event (element_at (requested c program n) p) (sent c program n p)) (λ p h. some_issue (element_at (requested c program n) p) (sent c program n p)))

  pub named_law : NameOpen c program n (open_rows c program n) (after c program (n + 1)).events
  named_law =
      let rows = second c range program n in
      subst (NameOpen c program n (open_rows c program n)) (sym (events_are c program n))
      (named_append c program n (open_rows c program n) (deliveries c program n) (others c program n ++ issues c program n) (delivered_named c range program n)
      (named_append c program n rows (others c program n) (issues c program n)
      (named_neutral c program n rows (others c program n) (others_neutral c program n)
      (each-append (NamesOpen c program n rows) (servings c program n) (meetings c program n) servings_name meetings_name))
      (named_issues c program n (rows_after n rows (others c program n)) (issues c program n) all_issues)))
