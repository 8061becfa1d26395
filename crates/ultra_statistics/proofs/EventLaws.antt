-- the events of a run by their numbers: the combinations of a stage by position, and the deliveries
-- of a window by latency
use Rattle.std.proofs.Common.{ℕ, zero, suc, List, [], ◌∷◌, ◌≡◌, ◌≢◌, ◌+◌, ◌-◌, ◌<◌, ◌≤◌, Bool, true, false, length, length-append, refl, sym, ap, ◌∙◌, arith}
use Rattle.std.proofs.lemmas.Bool.Decides.{nat_tests}
use Rattle.std.specs.{Prelude.{Option, Some, None, IfSome, ◌==◌, ◌&&◌}, List.{AllByRecursion, flat_map, range_with_len}}
use Rattle.ultra_msg.specs.declared.{Request.Request, ReplyMessage.ReplyMessage, Event.{Event, TheVariants.{Delivered, Served, Combined, Issued}}}
use Rattle.ultra_switch.specs.Arrive.{Lane, Combination, arrive, combine_within}
use Rattle.ultra_mem.specs.{declared.Served.Served as Act, Serve.served}
use Rattle.ultra_isa.specs.declared.Instr.{Instr}
use Rattle.ultra_model.specs.{Machine.{Settings, Element, size, module_at, element_at}, Balance.{count, total, weight}}
use Rattle.ultra_model.specs.Places.{places}
use Rattle.ultra_model.specs.Phases.{after, delivery, serving, combination, combinations, lane_after_leaving, arrivals, issue_event}
use Rattle.ultra_model.proofs.Each.{each-append, each-present, each-joined, each-places}
use Rattle.ultra_model.proofs.Sums.{total_none, total_front, total_same, total_plus, total_zero, total_only}
use Rattle.ultra_latency.specs.Latency.{latencies, latencies_of, latencies_among}
use Rattle.ultra_latency.proofs.CycleEvents.{replied, remembered, requested, brought, sent, deliveries, servings, meetings, issues, events_are}
use Rattle.ultra_measure.specs.{Window.event_count, EventKinds.{is_combination_in, is_delivery}}
use Rattle.ultra_statistics.specs.{Ports.is_combination_at, Latencies.answered_in}

-- ---- what has one number below a bound adds up
weight_same : (y : ℕ) → weight (y == y) ≡ 1
weight_same y = grind (arith, nat_tests)

weight_other : (y x : ℕ) → x ≢ y → weight (y == x) ≡ 0
weight_other y x other = grind (arith, nat_tests)

pub one_of : (n y : ℕ) → y < n → total n (λ x. weight (y == x)) ≡ 1
one_of n y below = total_only n (λ x. weight (y == x)) y below (λ x h other. weight_other y x other) ∙ weight_same y

-- ---- combinations
abbrev pub IsBelow : ℕ → Event → Type 0
IsBelow n (Delivered r) = Unit {0}
IsBelow n (Served k r v now) = Unit {0}
IsBelow n (Combined s x a old new first) = x < n
IsBelow n (Issued r k) = Unit {0}

module _ (n s : ℕ) where
  one_combination : (b : Bool) (y : ℕ) → y < n → total n (λ x. weight (b && (y == x))) ≡ weight b
  one_combination true y below = one_of n y below
  one_combination false y below = total_zero n (λ x. weight (false && (y == x))) (λ x h. refl)

  one_event : (e : Event) → IsBelow n e → total n (λ x. weight (is_combination_at s x e)) ≡ weight (is_combination_in s e)
  one_event (Delivered r) is = total_zero n (λ x. 0) (λ x h. refl)
  one_event (Served k r v now) is = total_zero n (λ x. 0) (λ x h. refl)
  one_event (Combined t y a old new first) is = one_combination (t == s) y is
  one_event (Issued r k) is = total_zero n (λ x. 0) (λ x h. refl)

  pub by_position : (es : List Event) → AllByRecursion (IsBelow n) es → total n (λ x. count (is_combination_at s x) es) ≡ count (is_combination_in s) es
  by_position [] all = total_zero n (λ x. 0) (λ x h. refl)
  by_position (e ∷ es) all =
      let here = one_event e all.0 in
      let rest = by_position es all.1 in
      let both = total_plus n (λ x. weight (is_combination_at s x e)) (λ x. count (is_combination_at s x) es) in
      both ∙ omega (arith, here, rest)

module _ (n : ℕ) where
  some_delivery : (o : Option ReplyMessage) → IfSome (delivery o) (IsBelow n)
  some_delivery None = tt
  some_delivery (Some r) = tt

  some_serving : (k : ℕ) (o : Option Act) → IfSome (serving k o) (IsBelow n)
  some_serving k None = tt
  some_serving k (Some a) = tt

  some_issue : (e : Element) (o : Option Request) → IfSome (issue_event e o) (IsBelow n)
  some_issue e None = tt
  some_issue e (Some r) = tt

  some_combination : (s x : ℕ) (r : Request) (o : Option Combination) → x < n → AllByRecursion (IsBelow n) (combination s x r o)
  some_combination s x r None below = tt
  some_combination s x r (Some c) below = (below, tt)

  some_combinations : (w s x : ℕ) (l : Lane) (rs : List Request) → x < n → AllByRecursion (IsBelow n) (combinations w s x l rs)
  some_combinations w s x l [] below = tt
  some_combinations w s x l (r ∷ rs) below = each-append (IsBelow n) (combination s x r (combine_within w l r)) _ (some_combination s x r (combine_within w l r) below) (some_combinations w s x (arrive w l r) rs below)

module _ (c : Settings) (program : List Instr) where
  module _ (n : ℕ) where
    abbrev met : ℕ → ℕ → List Event
    met s x = combinations c.wait_places s x (lane_after_leaving c (remembered c program n) s x) (arrivals c (remembered c program n) s x)

    abbrev Below : Event → Type 0
    Below = IsBelow (size c)

    meetings_below : AllByRecursion Below (meetings c program n)
    meetings_below =
        each-joined Below _ (each-joined (λ es. AllByRecursion Below es) _ (each-places (λ rows. AllByRecursion (λ es. AllByRecursion Below es) rows) c.stages (λ s. places (size c) (λ x. met s x)) (λ s hs. each-places (λ es. AllByRecursion Below es) (size c) (λ x. met s x) (λ x hx. some_combinations (size c) c.wait_places s x (lane_after_leaving c (remembered c program n) s x) (arrivals c (remembered c program n) s x) hx))))

    deliveries_below : AllByRecursion Below (deliveries c program n)
    deliveries_below = each-present Below _ (each-places (λ o. IfSome o Below) (size c) (λ p. delivery (brought c program n p)) (λ p h. some_delivery (size c) (brought c program n p)))

    servings_below : AllByRecursion Below (servings c program n)
    servings_below = each-present Below _ (each-places (λ o. IfSome o Below) (size c) (λ k. serving k (served (module_at (replied c program n) k))) (λ k h. some_serving (size c) k (served (module_at (replied c program n) k))))

    issues_below : AllByRecursion Below (issues c program n)
    issues_below = each-present Below _ (each-places (λ o. IfSome o Below) (size c) (λ p. issue_event (element_at (requested c program n) p) (sent c program n p)) (λ p h. some_issue (size c) (element_at (requested c program n) p) (sent c program n p)))

    pub events_below : AllByRecursion (IsBelow (size c)) (after c program (n + 1)).events
    events_below =
        rw (events_are c program n)
        (each-append Below (deliveries c program n) _ deliveries_below
        (each-append Below _ (issues c program n) (each-append Below (servings c program n) (meetings c program n) servings_below meetings_below) issues_below))

  -- ---- deliveries
  module _ (n : ℕ) where
    among_many : (es : List Event) → length (latencies_among c program n es) ≡ count is_delivery es
    among_many [] = refl
    among_many (Delivered r ∷ es) = let rest = among_many es in omega (arith, rest)
    among_many (Served k r v now ∷ es) = let rest = among_many es in omega (arith, rest)
    among_many (Combined s x a old new first ∷ es) = let rest = among_many es in omega (arith, rest)
    among_many (Issued r k ∷ es) = let rest = among_many es in omega (arith, rest)

    among_below : (to : ℕ) → n < to → (es : List Event) → AllByRecursion (λ l. l < to) (latencies_among c program n es)
    among_below to h [] = tt
    among_below to h (Delivered r ∷ es) = (omega (arith, h), among_below to h es)
    among_below to h (Served k r v now ∷ es) = among_below to h es
    among_below to h (Combined s x a old new first ∷ es) = among_below to h es
    among_below to h (Issued r k ∷ es) = among_below to h es

  along_many : (a n : ℕ) → length (flat_map (latencies_of c program) (range_with_len a n)) ≡ total n (λ k. count is_delivery (after c program (a + k + 1)).events)
  along_many a zero = sym (total_none (λ k. count is_delivery (after c program (a + k + 1)).events))
  along_many a (suc n) =
      let first = total_front n (λ k. count is_delivery (after c program (a + k + 1)).events) in
      let start : a + 0 + 1 ≡ a + 1 = omega arith in
      let here = among_many a (after c program (a + 1)).events ∙ ap (λ j. count is_delivery (after c program j).events) (sym start) in
      let rest = along_many (a + 1) n ∙ total_same n (λ k. count is_delivery (after c program (a + 1 + k + 1)).events) (λ k. count is_delivery (after c program (a + (k + 1) + 1)).events) (λ k h. let same : a + 1 + k + 1 ≡ a + (k + 1) + 1 = omega arith in ap (λ j. count is_delivery (after c program j).events) same) in
      let both = length-append (latencies_of c program a) (flat_map (latencies_of c program) (range_with_len (a + 1) n)) in
      omega (arith, first, here, rest, both)

  along_below : (to a n : ℕ) → a + n ≤ to → AllByRecursion (λ l. l < to) (flat_map (latencies_of c program) (range_with_len a n))
  along_below to a zero h = tt
  along_below to a (suc n) h = each-append (λ l. l < to) (latencies_of c program a) _ (among_below a to (omega (arith, h)) (after c program (a + 1)).events) (along_below to (a + 1) n (omega (arith, h)))

  pub as_many : (from to : ℕ) → length (latencies c program from to) ≡ event_count c program from to is_delivery
  as_many from to = along_many from (to - from)

  within : (from to n : ℕ) → n ≡ to - from → AllByRecursion (λ l. l < to) (flat_map (latencies_of c program) (range_with_len from n))
  within from to zero is = tt
  within from to (suc n) is = along_below to from (suc n) (omega (arith, is))

  pub all_below : (from to : ℕ) → AllByRecursion (λ l. l < to) (latencies c program from to)
  all_below from to = within from to (to - from) refl

pub by_latency : (n : ℕ) (xs : List ℕ) → AllByRecursion (λ l. l < n) xs → total n (answered_in xs) ≡ length xs
by_latency n [] all = total_zero n (λ l. 0) (λ l h. refl)
by_latency n (x ∷ xs) all =
    let here = one_of n x all.0 in
    let rest = by_latency n xs all.1 in
    let both = total_plus n (λ l. weight (x == l)) (answered_in xs) in
    both ∙ omega (arith, here, rest)
