-- a processing element that rests is left as it is by a cycle in which no reply comes to it
use Rattle.std.proofs.Common.{ℕ, zero, suc, List, ◌∷◌, ◌++◌, ◌≡◌, ◌+◌, ◌<◌, ◌≤◌, Bool, true, false, ◌||◌, ◌==◌, not, length, refl, sym, ap, ◌∙◌, subst, ⊎_elim, arith}
use Rattle.std.proofs.lemmas.Bool.{cases_lt, Decides.nat_tests}
use Rattle.std.specs.Prelude.{Option, Some, None, IfSome, map, nat_lt, slice_get}
use Rattle.std.specs.List.{range_with_len}
use Rattle.ultra_msg.specs.declared.{Request.Request, ReplyMessage.ReplyMessage, Event.Event}
use Rattle.ultra_pni.specs.{declared.{OpenCell.OpenCell, Issue.{Issue, TheVariants.{Sent, CellOpen, Full}}}, Interface.{Interface, issue_of}}
use Rattle.ultra_isa.specs.declared.{Instr.Instr, Activity.Activity}
use Rattle.ultra_isa.specs.Instruction.{Site, Effect, sets, goes_on_at, refers, waits, halts, effect}
use Rattle.ultra_isa.specs.declared.Activity.TheVariants as activity
use Rattle.ultra_isa.specs.Step.{Core, StepResult, does, has_stopped, is_stall, names_awaited, refers_as, refers_where, runs, runs_as, runs_where, step_of, waits_where}
use Rattle.ultra_model.specs.Machine.{Settings, Machine, Element, size, site, element_at}
use Rattle.ultra_model.specs.{Places.{places, present}, Ranges.AreInRange, Balance.{count, weight}}
use Rattle.ultra_model.specs.Phases.{after, delivery, arriving_request, stepped, without_pending, deliver, step_at}
use Rattle.ultra_model.proofs.{AtPlaces.{element-reply_phase, element-memory_phase, element-request_phase, element-processor_phase}, Counting.count-append}
use Rattle.ultra_route.specs.Route.{shuffled}
use Rattle.ultra_latency.proofs.CycleEvents.{before, replied, remembered, requested, brought, deliveries, others, issues, next_is, events_are}
use Rattle.ultra_latency.proofs.Deliveries.{brought_own}
use Rattle.ultra_measure.specs.{Held.{running, stalled, opened}, EventKinds.is_delivery_to, ElementStates.is_resting}

-- ---- one step, whatever requests wait
module _ (s : Site) (most_open : ℕ) (program : List Instr) (c : Core) (os : List OpenCell) where
  abbrev with : List Request → Interface
  with q = record { opened = os; pending = q }

  module _ (p q : List Request) where
    same_issue : (r : Request) (t : Option ℕ) (issue : Issue) → (refers_as c (with p) r t issue).was ≡ (refers_as c (with q) r t issue).was
    same_issue r t Sent = refl
    same_issue r t CellOpen = refl
    same_issue r t Full = refl

    same_refers : (b : Bool) (r : Request) (t : Option ℕ) → (refers_where s most_open b c (with p) r t).was ≡ (refers_where s most_open b c (with q) r t).was
    same_refers true r t = same_issue r t (issue_of most_open (with p) r)
    same_refers false r t = refl

    same_waits : (b : Bool) → (waits_where b c (with p)).was ≡ (waits_where b c (with q)).was
    same_waits true = refl
    same_waits false = refl

    same_does : (e : Effect) → (does s most_open c (with p) e).was ≡ (does s most_open c (with q) e).was
    same_does (sets d v) = refl
    same_does (goes_on_at pc) = refl
    same_does (refers a o t) = same_refers (nat_lt a s.all_cells) record { pe = s.pe; cell = a; op = o } t
    same_does waits = same_waits (length os == 0)
    same_does halts = refl

    same_where : (b : Bool) (n : Instr) → (runs_where s most_open b c (with p) n).was ≡ (runs_where s most_open b c (with q) n).was
    same_where true n = refl
    same_where false n = same_does (effect s c.registers c.pc n)

    same_runs : (o : Option Instr) → (runs s most_open c (with p) o).was ≡ (runs s most_open c (with q) o).was
    same_runs None = refl
    same_runs (Some n) = same_where (names_awaited n (with p)) n

    same_as : (a : Activity) (o : Option Instr) → (runs_as s most_open a c (with p) o).was ≡ (runs_as s most_open a c (with q) o).was
    same_as activity.Running o = same_runs o
    same_as activity.Halted o = refl
    same_as (activity.Faulted f) o = refl

    same_step : (step_of s most_open program c (with p)).was ≡ (step_of s most_open program c (with q)).was
    same_step = same_as c.activity (slice_get program c.pc)

  abbrev rests : List Request → Bool
  rests p = has_stopped c.activity || is_stall (step_of s most_open program c (with p)).was

  core_stays : (q : List Request) → rests q ≡ true → (step_of s most_open program c (with q)).core ≡ c
  core_stays q h = grind arith

  opened_stay : (q : List Request) → rests q ≡ true → (step_of s most_open program c (with q)).interface.opened ≡ os
  opened_stay q h = grind arith

-- ---- no event of a list delivers a reply to a processing element
module _ (p : ℕ) where
  weight_zero : (b : Bool) → weight b ≡ 0 → b ≡ false
  weight_zero true h = absurd (omega (arith, h))
  weight_zero false h = refl

  none_first : (o : Option ReplyMessage) (os : List (Option Event)) → IfSome o (λ (r : ReplyMessage). r.pe ≡ p) → count (is_delivery_to p) (present (delivery o ∷ os)) ≡ 0 → o ≡ None
  none_first None os own none = refl
  none_first (Some r) os own none = absurd (let here : (r.pe == p) ≡ true = grind (arith, nat_tests, own) in grind (arith, nat_tests, here))

  none_rest : (o : Option ReplyMessage) (os : List (Option Event)) → count (is_delivery_to p) (present (delivery o ∷ os)) ≡ 0 → count (is_delivery_to p) (present os) ≡ 0
  none_rest None os none = none
  none_rest (Some r) os none = omega (arith, none)

  none_in : (f : ℕ → Option ReplyMessage) (a n : ℕ) → IfSome (f p) (λ (r : ReplyMessage). r.pe ≡ p) → a ≤ p → p < a + n → count (is_delivery_to p) (present (map (λ k. delivery (f k)) (range_with_len a n))) ≡ 0 → f p ≡ None
  none_in f a zero own from to none = absurd (omega (arith, from, to))
  none_in f a (suc n) own from to none =
      ⊎_elim (λ later. none_in f (a + 1) n own (omega (arith, later)) (omega (arith, to)) (none_rest (f a) (map (λ k. delivery (f k)) (range_with_len (a + 1) n)) none))
      (λ here.
      let same : a ≡ p = omega (arith, from, here) in
      ap f (sym same) ∙ none_first (f a) (map (λ k. delivery (f k)) (range_with_len (a + 1) n)) (subst (λ k. IfSome (f k) (λ (r : ReplyMessage). r.pe ≡ p)) (sym same) own) none) (cases_lt a p)

-- ---- a cycle
module _ (c : Settings) (range : AreInRange c) (program : List Instr) (n p : ℕ) (h : p < size c) where
  unanswered : count (is_delivery_to p) (after c program (n + 1)).events ≡ 0 → brought c program n p ≡ None
  unfolding places
  unanswered none =
      let parts = ap (count (is_delivery_to p)) (events_are c program n) ∙ count-append (is_delivery_to p) (deliveries c program n) (others c program n ++ issues c program n) in
      none_in p (brought c program n) 0 (size c) (brought_own c range program n p h) (omega arith) (omega arith) (omega (arith, none, parts))

  abbrev old : Element
  old = element_at (before c program n) p

  abbrev moved : Element
  moved = element_at (requested c program n) p

  abbrev new : Element
  new = element_at (after c program (n + 1)) p

  moved_is : brought c program n p ≡ None → moved ≡ without_pending old (arriving_request c (remembered c program n) 0 (shuffled c.stages p))
  moved_is none =
      element-request_phase c (remembered c program n) p h
      ∙ ap (λ e. without_pending e (arriving_request c (remembered c program n) 0 (shuffled c.stages p)))
      (element-memory_phase c (replied c program n) p ∙ element-reply_phase c (before c program n) p h ∙ ap (deliver old) none)

  new_is : new ≡ stepped moved (step_at c program (requested c program n) p)
  new_is = ap (λ (m : Machine). element_at m p) (next_is c program n) ∙ element-processor_phase c program (requested c program n) p h

  -- one that rests and to which no reply comes is left as it is, but for the requests that leave it
  pub record IsLeft : Type 0 where
    pub core : new.core ≡ old.core
    pub opened : new.interface.opened ≡ old.interface.opened

  pub is_left : is_resting c program (before c program n) p ≡ true → brought c program n p ≡ None → IsLeft
  is_left rest none =
      let q = (without_pending old (arriving_request c (remembered c program n) 0 (shuffled c.stages p))).interface.pending in
      let s = site c p in
      let still : (has_stopped old.core.activity || is_stall (step_of s c.most_open program old.core (record { opened = old.interface.opened; pending = q })).was) ≡ true = ap (λ b. has_stopped old.core.activity || is_stall b) (same_step s c.most_open program old.core old.interface.opened q old.interface.pending) ∙ rest in
      let is = moved_is none in
      let step : step_at c program (requested c program n) p ≡ step_of s c.most_open program old.core (record { opened = old.interface.opened; pending = q }) = ap (λ (e : Element). step_of s c.most_open program e.core e.interface) is in
      record {
        core = ap (λ (e : Element). e.core) new_is ∙ ap (λ (t : StepResult). t.core) step ∙ core_stays s c.most_open program old.core old.interface.opened q still;
        opened = ap (λ (e : Element). e.interface.opened) new_is ∙ ap (λ (t : StepResult). t.interface.opened) step ∙ opened_stay s c.most_open program old.core old.interface.opened q still;
      }

  -- so it is as it was seen
  module _ (rest : is_resting c program (before c program n) p ≡ true) (none : count (is_delivery_to p) (after c program (n + 1)).events ≡ 0) where
    left : IsLeft
    left = is_left rest (unanswered none)

    same_was : (step_at c program (after c program (n + 1)) p).was ≡ (step_at c program (before c program n) p).was
    same_was =
        let s = site c p in
        ap (λ k. (step_of s c.most_open program k new.interface).was) left.core
        ∙ ap (λ os. (step_of s c.most_open program old.core (record { opened = os; pending = new.interface.pending })).was) left.opened
        ∙ same_step s c.most_open program old.core old.interface.opened new.interface.pending old.interface.pending

    pub still_rests : is_resting c program (after c program (n + 1)) p ≡ true
    still_rests = ap (λ (k : Core). has_stopped k.activity || is_stall (step_at c program (after c program (n + 1)) p).was) left.core ∙ ap (λ w. has_stopped old.core.activity || is_stall w) same_was ∙ rest

    pub same_running : running (after c program (n + 1)) p ≡ running (before c program n) p
    same_running = ap (λ (k : Core). weight (not (has_stopped k.activity))) left.core

    pub same_stalled : stalled c program (after c program (n + 1)) p ≡ stalled c program (before c program n) p
    same_stalled = ap (λ w. weight (is_stall w)) same_was

    pub same_opened : opened (after c program (n + 1)) p ≡ opened (before c program n) p
    same_opened = ap length left.opened
