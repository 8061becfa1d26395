-- how much happens in a cycle at most
use Rattle.std.proofs.Common.{ℕ, suc, List, [], ◌∷◌, ◌++◌, ◌≡◌, ◌+◌, ◌*◌, ◌/◌, ◌%◌, ◌^◌, ◌<◌, ◌≤◌, Bool, true, false, length, length-append, refl, ap, ◌∙◌, arith}
use Rattle.std.proofs.Math.Pow.{pow_mono}
use Rattle.std.specs.{Prelude.{Option, Some, None, ◌==◌}, List.AllByRecursion}
use Rattle.ultra_msg.specs.declared.{Request.Request, Event.Event}
use Rattle.ultra_switch.specs.Arrive.{Lane, Combination, arrive, combine_within}
use Rattle.ultra_mem.specs.Serve.{served}
use Rattle.ultra_isa.specs.declared.Instr.{Instr}
use Rattle.ultra_model.specs.{declared.Stop.Stop, Places.{places, table, present, joined}, Ranges.AreInRange}
use Rattle.ultra_model.specs.Machine.{Settings, Machine, size, module_at, element_at, request_exit}
use Rattle.ultra_model.specs.Phases.{after, processor_phase, delivery, serving, combination, combinations, lane_after_leaving, arrivals, arrivals_by, arriving_request, requests_by, issue_event, step_at, stop_of}
use Rattle.ultra_model.proofs.Each.{each-joined, each-places, if_tested, length-places}
use Rattle.ultra_latency.specs.Few.{HasFewEvents}
use Rattle.ultra_latency.proofs.CycleEvents.{before, replied, remembered, requested, brought, sent, deliveries, servings, meetings, others, issues, next_is, events_are}

pub present_short : {X : Type 0} (os : List (Option X)) → length (present os) ≤ length os
present_short [] = omega arith
present_short (None ∷ os) = let rest = present_short os in omega (arith, rest)
present_short (Some x ∷ os) = let rest = present_short os in omega (arith, rest)

joined_short : {X : Type 0} (b : ℕ) (xss : List (List X)) → AllByRecursion (λ (xs : List X). length xs ≤ b) xss → length (joined xss) ≤ length xss * b
joined_short b [] all = omega arith
joined_short b (xs ∷ xss) all = let rest = joined_short b xss all.1 in omega (arith, rest, all.0, length-append xs (joined xss))

one_combination : (s x : ℕ) (r : Request) (o : Option Combination) → length (combination s x r o) ≤ 1
one_combination s x r None = omega arith
one_combination s x r (Some c) = omega arith

combinations_short : (w s x : ℕ) (l : Lane) (rs : List Request) → length (combinations w s x l rs) ≤ length rs
combinations_short w s x l [] = omega arith
combinations_short w s x l (r ∷ rs) =
    let rest = combinations_short w s x (arrive w l r) rs in
    let one = one_combination s x r (combine_within w l r) in
    omega (arith, rest, one, length-append (combination s x r (combine_within w l r)) (combinations w s x (arrive w l r) rs))

either_way : (b : Bool) (xs ys : List Request) → length xs ≤ 1 → length ys ≤ 1 → length {A = Request} (elim b [ true ↦ xs ++ ys | false ↦ ys ++ xs ]) ≤ 2
either_way true xs ys h k = omega (arith, h, k, length-append xs ys)
either_way false xs ys h k = omega (arith, h, k, length-append ys xs)

module _ (c : Settings) where
  one_by : (s y x : ℕ) (o : Option Request) → length (requests_by c s y x o) ≤ 1
  one_by s y x None = omega arith
  one_by s y x (Some r) = if_tested (request_exit c s y r == x) (λ (rs : List Request). length rs ≤ 1) _ _ (λ z. omega arith) (λ z. omega arith)

  two_arrivals : (m : Machine) (s x : ℕ) → length (arrivals c m s x) ≤ 2
  two_arrivals m s x =
      either_way (m.cycles % 2 == 0) (arrivals_by c m s (2 * (x / 2)) x) (arrivals_by c m s (2 * (x / 2) + 1) x)
      (one_by s (2 * (x / 2)) x (arriving_request c m s (2 * (x / 2)))) (one_by s (2 * (x / 2) + 1) x (arriving_request c m s (2 * (x / 2) + 1)))

module _ (c : Settings) (range : AreInRange c) (program : List Instr) (n : ℕ) where
  positions : size c ≤ 64
  positions = let most : size c ≤ 2 ^ 6 = pow_mono range.most_stages in omega (arith, most)

  abbrev met : ℕ → ℕ → List Event
  met s x = combinations c.wait_places s x (lane_after_leaving c (remembered c program n) s x) (arrivals c (remembered c program n) s x)

  two_met : (s x : ℕ) → length (met s x) ≤ 2
  two_met s x =
      let few = combinations_short c.wait_places s x (lane_after_leaving c (remembered c program n) s x) (arrivals c (remembered c program n) s x) in
      let two = two_arrivals c (remembered c program n) s x in
      omega (arith, few, two)

  few_meetings : length (meetings c program n) ≤ 768
  few_meetings =
      let each = each-joined (λ (es : List Event). length es ≤ 2) _ (each-places (λ (rows : List (List Event)). AllByRecursion (λ (es : List Event). length es ≤ 2) rows) c.stages (λ s. places (size c) (λ x. met s x)) (λ s h. each-places (λ (es : List Event). length es ≤ 2) (size c) (λ x. met s x) (λ x k. two_met s x))) in
      let lists = joined_short 2 (joined (table c.stages (size c) met)) each in
      let rows = joined_short 64 (table c.stages (size c) met) (each-places (λ (rows : List (List Event)). length rows ≤ 64) c.stages (λ s. places (size c) (λ x. met s x)) (λ s h. let long = length-places (size c) (λ x. met s x) in omega (arith, long, positions))) in
      let stages = length-places c.stages (λ s. places (size c) (λ x. met s x)) in
      omega (arith, lists, rows, stages, range.most_stages)

  few_of : (event : ℕ → Option Event) → length (present (places (size c) event)) ≤ 64
  few_of event = let short = present_short (places (size c) event) in let long = length-places (size c) event in omega (arith, short, long, positions)

  pub few_events : HasFewEvents c program n
  unfolding processor_phase
  few_events =
      let all = ap length (events_are c program n) in
      let first = length-append (deliveries c program n) (others c program n ++ issues c program n) in
      let second = length-append (others c program n) (issues c program n) in
      let third = length-append (servings c program n) (meetings c program n) in
      let a = few_of (λ p. delivery (brought c program n p)) in
      let b = few_of (λ k. serving k (served (module_at (replied c program n) k))) in
      let d = few_of (λ p. issue_event (element_at (requested c program n) p) (sent c program n p)) in
      let faults : ℕ → Option Stop = λ p. stop_of p (step_at c program (requested c program n) p).was in
      let stops = ap (λ (m : Machine). length m.stops) (next_is c program n) in
      let short = present_short (places (size c) faults) in
      let long = length-places (size c) faults in
      record {
        events = omega (arith, all, first, second, third, a, b, d, few_meetings);
        stops = omega (arith, stops, short, long, positions);
      }
