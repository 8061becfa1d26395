-- the events of a cycle, by the phases that make them
use Rattle.std.proofs.Common.{ℕ, suc, List, [], ◌∷◌, ◌++◌, ◌≡◌, ◌+◌, ◌<◌, refl, ap, ◌∙◌, append_assoc, add-one}
use Rattle.std.specs.{Prelude.{Option, Some, None, IfSome}, List.AllByRecursion}
use Rattle.ultra_msg.specs.declared.{Request.Request, ReplyMessage.ReplyMessage, Event.{Event, TheVariants.{Delivered, Served, Combined, Issued}}}
use Rattle.ultra_switch.specs.Arrive.{Lane, Combination, arrive, combine_within}
use Rattle.ultra_mem.specs.{declared.Served.Served as Act, Serve.served}
use Rattle.ultra_isa.specs.declared.Instr.{Instr}
use Rattle.ultra_model.specs.Machine.{Settings, Machine, Element, size, module_at, element_at}
use Rattle.ultra_model.specs.Places.{places, table, present, joined}
use Rattle.ultra_model.specs.Phases.{after, cycle, reply_phase, memory_phase, request_phase, processor_phase, delivery, delivered, serving, combination, combinations, lane_after_leaving, arrivals, issue_event, step_at}
use Rattle.ultra_model.proofs.Each.{each-append, each-present, each-joined, each-places}
use Rattle.ultra_latency.proofs.Rows.{IsNeutral}

some_serving : (k : ℕ) (o : Option Act) → IfSome (serving k o) IsNeutral
some_serving k None = tt
some_serving k (Some a) = tt

some_combination : (s x : ℕ) (r : Request) (o : Option Combination) → AllByRecursion IsNeutral (combination s x r o)
some_combination s x r None = tt
some_combination s x r (Some c) = (tt, tt)

some_combinations : (w s x : ℕ) (l : Lane) (rs : List Request) → AllByRecursion IsNeutral (combinations w s x l rs)
some_combinations w s x l [] = tt
some_combinations w s x l (r ∷ rs) = each-append IsNeutral (combination s x r (combine_within w l r)) _ (some_combination s x r (combine_within w l r)) (some_combinations w s x (arrive w l r) rs)

module _ (c : Settings) (program : List Instr) (n : ℕ) where
  abbrev pub before : Machine
  before = after c program n

  -- the machine after each phase before the last
  abbrev pub replied : Machine
  replied = reply_phase c before

  abbrev pub remembered : Machine
  remembered = memory_phase c replied

  abbrev pub requested : Machine
  requested = request_phase c remembered

  abbrev pub brought : ℕ → Option ReplyMessage
  brought p = delivered c before p

  abbrev pub sent : ℕ → Option Request
  sent p = (step_at c program requested p).sent

  abbrev pub deliveries : List Event
  deliveries = present (places (size c) (λ p. delivery (brought p)))

  abbrev pub servings : List Event
  servings = present (places (size c) (λ k. serving k (served (module_at replied k))))

  abbrev pub meetings : List Event
  meetings = joined (joined (table c.stages (size c) (λ s x. combinations c.wait_places s x (lane_after_leaving c remembered s x) (arrivals c remembered s x))))

  -- what happens in memory and in the network
  abbrev pub others : List Event
  others = servings ++ meetings

  abbrev pub issues : List Event
  issues = present (places (size c) (λ p. issue_event (element_at requested p) (sent p)))

  pub next_is : after c program (n + 1) ≡ processor_phase c program requested
  unfolding after cycle
  next_is = rw add-one refl

  by_phases : (processor_phase c program requested).events ≡ ((deliveries ++ servings) ++ meetings) ++ issues
  unfolding reply_phase memory_phase request_phase processor_phase
  by_phases = refl

  pub events_are : (after c program (n + 1)).events ≡ deliveries ++ (others ++ issues)
  events_are = ap (λ (m : Machine). m.events) next_is ∙ by_phases ∙ ap (λ es. es ++ issues) (append_assoc deliveries servings meetings) ∙ append_assoc deliveries others issues

  pub others_neutral : AllByRecursion IsNeutral others
  others_neutral =
      each-append IsNeutral servings meetings
      (each-present IsNeutral _ (each-places (λ o. IfSome o IsNeutral) (size c) (λ k. serving k (served (module_at replied k))) (λ k h. some_serving k (served (module_at replied k)))))
      (each-joined IsNeutral _ (each-joined (λ es. AllByRecursion IsNeutral es) _ (each-places (λ rows. AllByRecursion (λ es. AllByRecursion IsNeutral es) rows) c.stages (λ s. places (size c) (λ x. combinations c.wait_places s x (lane_after_leaving c remembered s x) (arrivals c remembered s x))) (λ s h. each-places (λ es. AllByRecursion IsNeutral es) (size c) (λ x. combinations c.wait_places s x (lane_after_leaving c remembered s x) (arrivals c remembered s x)) (λ x k. some_combinations c.wait_places s x (lane_after_leaving c remembered s x) (arrivals c remembered s x))))))
