-- the acts on a cell in the events of a cycle
use Rattle.std.proofs.Common.{◌≡◌, ◌≢◌, ℕ, zero, suc, ◌+◌, ◌<◌, List, [], ◌∷◌, ◌++◌, Bool, true, refl, arith, sym, ◌∙◌, ap, subst, ⊎_elim, append_assoc}
use Rattle.std.specs.Prelude.{Option, Some, None, IfSome, ◌==◌, if◌then◌else◌}
use Rattle.std.specs.List.{AllByRecursion, Contains}
use Rattle.std.proofs.lemmas.{List.{append-nil, Elements.{Contains-append_left, Contains-push}}, Bool.{cases_eq, cases_lt}}
use Rattle.ultra_msg.specs.declared.{Request.Request, ReplyMessage.ReplyMessage, Event.{Event, TheVariants.Delivered}}
use Rattle.ultra_switch.specs.Arrive.{Lane, Combination, combine_within, arrive}
use Rattle.ultra_mem.specs.{declared.Placed.Placed, Serve.{ModuleState, act_of, served}}
use Rattle.ultra_isa.specs.declared.Instr.{Instr}
use Rattle.ultra_model.specs.Places.{places, table, present, joined}
use Rattle.ultra_model.specs.Machine.{Settings, Machine, Element, size, module_at, element_at}
use Rattle.ultra_model.specs.Phases.{delivery, delivered, serving, combination, combinations, lane_after_leaving, arrivals, issue_event, step_at, reply_phase, memory_phase, request_phase, processor_phase, cycle}
use Rattle.ultra_model.proofs.Each.{each-append, each-present, each-joined, each-places, places_none, places_more}
use Rattle.ultra_model.proofs.Neighbours.{itself, other}
use Rattle.ultra_serial_law.specs.AllAtOnce.{act_on, acts_on}
use Rattle.ultra_serial_law.proofs.Calm.{ServesOther}

present-append : {X : Type 0} (xs ys : List (Option X)) → present (xs ++ ys) ≡ present xs ++ present ys
present-append [] ys = refl
present-append (None ∷ xs) ys = present-append xs ys
present-append (Some x ∷ xs) ys = ap (λ zs. x ∷ zs) (present-append xs ys)

-- one place more
present_more : {X : Type 0} (n : ℕ) (f : ℕ → Option X) → present (places (suc n) f) ≡ present (places n f) ++ present (f n ∷ [])
present_more n f =
    let next : suc n ≡ n + 1 = omega arith in
    ap (λ k. present (places k f)) next ∙ (ap (λ os. present os) (places_more n f) ∙ present-append (places n f) (f n ∷ []))

-- what a place gives is in the list
present_at : {X : Type 0} (n : ℕ) (f : ℕ → Option X) (k : ℕ) (x : X) → k < n → f k ≡ Some x → Contains (present (places n f)) x
present_at zero f k x h e = absurd (omega (arith, h))
present_at (suc n) f k x h e =
    subst (λ xs. Contains xs x) (sym (present_more n f))
    (⊎_elim (λ l. Contains-append_left (present (places n f)) (present (f n ∷ [])) x (present_at n f k x l e))
    (λ l. let same : k ≡ n = omega (arith, h, l) in
    let here : f n ≡ Some x = subst (λ j. f j ≡ Some x) same e in
    rw here (Contains-push (present (places n f)) x)) (cases_lt k n))

module _ (a : ℕ) where
  pub acts-append : (es fs : List Event) → acts_on a (es ++ fs) ≡ acts_on a es ++ acts_on a fs
  acts-append [] fs = refl
  acts-append (e ∷ es) fs = ap (λ rs. act_on a e ++ rs) (acts-append es fs) ∙ sym (append_assoc (act_on a e) (acts_on a es) (acts_on a fs))

  abbrev IsNoAct : Event → Type 0
  IsNoAct e = act_on a e ≡ []

  no_acts : (es : List Event) → AllByRecursion IsNoAct es → acts_on a es ≡ []
  no_acts [] h = refl
  no_acts (e ∷ es) h = rw (h.0, no_acts es h.1) refl

  -- ---- what a place gives
  abbrev acts_at : (ℕ → Option Event) → ℕ → List Request
  acts_at f k = acts_on a (present (f k ∷ []))

  acts_more : (n : ℕ) (f : ℕ → Option Event) → acts_on a (present (places (suc n) f)) ≡ acts_on a (present (places n f)) ++ acts_at f n
  acts_more n f = ap (λ es. acts_on a es) (present_more n f) ∙ acts-append (present (places n f)) (present (f n ∷ []))

  acts_none : (f : ℕ → Option Event) → acts_on a (present (places 0 f)) ≡ []
  acts_none f = ap (λ os. acts_on a (present os)) (places_none f)

  none_listed : (n : ℕ) (f : ℕ → Option Event) → ((k : ℕ) → k < n → acts_at f k ≡ []) → acts_on a (present (places n f)) ≡ []
  none_listed zero f h = acts_none f
  none_listed (suc n) f h = acts_more n f ∙ rw (none_listed n f (λ k l. h k (omega arith)), h n (omega arith)) refl

  pub one_listed : (n : ℕ) (f : ℕ → Option Event) (m : ℕ) (r : Request) → m < n → acts_at f m ≡ r ∷ [] → ((k : ℕ) → k < n → k ≢ m → acts_at f k ≡ []) → acts_on a (present (places n f)) ≡ r ∷ []
  one_listed zero f m r l e h = absurd (omega (arith, l))
  one_listed (suc n) f m r l e h =
      acts_more n f
      ∙ ⊎_elim
      (λ same. let here : acts_at f n ≡ r ∷ [] = subst (λ j. acts_at f j ≡ r ∷ []) same e in
      rw (none_listed n f (λ k i. h k (omega arith) (omega (arith, same))), here) refl)
      (λ apart. let last : acts_at f n ≡ [] = h n (omega arith) (λ z. apart (sym z)) in
      rw last (append-nil (acts_on a (present (places n f))) ∙ one_listed n f m r (omega (arith, l, apart)) e (λ k i z. h k (omega arith) z))) (cases_eq m n)

  -- ---- what a module gives
  act_other : (k : ℕ) (b : ModuleState) (i : Option Placed) (o : Option ReplyMessage) → IfSome i (λ (p : Placed). p.request.cell ≢ a)
      → acts_on a (present (serving k (act_of b (elim o [ None ↦ i | Some r ↦ None ])) ∷ [])) ≡ []
  act_other k b None None h = refl
  act_other k b None (Some r) h = refl
  act_other k b (Some p) (Some r) h = refl
  act_other k b (Some p) None h =
      let f : Bool → List Request = λ z. (if z then p.request ∷ [] else []) ++ [] in
      ap f (other p.request.cell a h)

  serves_other : (k : ℕ) (b : ModuleState) → ServesOther a b → acts_on a (present (serving k (served b) ∷ [])) ≡ []
  serves_other k b h = act_other k b b.inp b.out h

  pub serves_one : (k : ℕ) (b : ModuleState) (p : Placed) → p.request.cell ≡ a → served b ≡ act_of b (Some p) → acts_on a (present (serving k (served b) ∷ [])) ≡ p.request ∷ []
  serves_one k b p e h =
      let here : (p.request.cell == a) ≡ true = rw e (itself a) in
      let f : Bool → List Request = λ z. (if z then p.request ∷ [] else []) ++ [] in
      ap (λ o. acts_on a (present (serving k o ∷ []))) h ∙ ap f here

  -- ---- the events of a cycle
  some_delivery : (o : Option ReplyMessage) → IfSome (delivery o) IsNoAct
  some_delivery None = tt
  some_delivery (Some r) = refl

  some_issue : (e : Element) (o : Option Request) → IfSome (issue_event e o) IsNoAct
  some_issue e None = tt
  some_issue e (Some r) = refl

  each_combination : (s x : ℕ) (r : Request) (o : Option Combination) → AllByRecursion IsNoAct (combination s x r o)
  each_combination s x r None = tt
  each_combination s x r (Some v) = (refl, tt)

  each_of_lane : (w s x : ℕ) (l : Lane) (rs : List Request) → AllByRecursion IsNoAct (combinations w s x l rs)
  each_of_lane w s x l [] = tt
  each_of_lane w s x l (r ∷ rs) = each-append IsNoAct (combination s x r (combine_within w l r)) (combinations w s x (arrive w l r) rs) (each_combination s x r (combine_within w l r)) (each_of_lane w s x (arrive w l r) rs)

  module _ (c : Settings) (program : List Instr) (m : Machine) where
    abbrev pub deliveries : List Event
    deliveries = present (places (size c) (λ p. delivery (delivered c m p)))

    abbrev pub servings : List Event
    servings = present (places (size c) (λ k. serving k (served (module_at (reply_phase c m) k))))

    abbrev acted : Machine
    acted = memory_phase c (reply_phase c m)

    abbrev pub meetings : List Event
    meetings = joined (joined (table c.stages (size c) (λ s x. combinations c.wait_places s x (lane_after_leaving c acted s x) (arrivals c acted s x))))

    abbrev moved : Machine
    moved = request_phase c acted

    abbrev pub issues : List Event
    issues = present (places (size c) (λ p. issue_event (element_at moved p) (step_at c program moved p).sent))

    pub events_are : (cycle c program m).events ≡ ((deliveries ++ servings) ++ meetings) ++ issues
    unfolding cycle reply_phase memory_phase request_phase processor_phase
    events_are = refl

    pub no_deliveries : acts_on a deliveries ≡ []
    no_deliveries = no_acts deliveries (each-present IsNoAct (places (size c) (λ p. delivery (delivered c m p))) (each-places (λ o. IfSome o IsNoAct) (size c) (λ p. delivery (delivered c m p)) (λ p h. some_delivery (delivered c m p))))

    pub no_issues : acts_on a issues ≡ []
    no_issues = no_acts issues (each-present IsNoAct (places (size c) (λ p. issue_event (element_at moved p) (step_at c program moved p).sent)) (each-places (λ o. IfSome o IsNoAct) (size c) (λ p. issue_event (element_at moved p) (step_at c program moved p).sent) (λ p h. some_issue (element_at moved p) (step_at c program moved p).sent)))

    abbrev made : ℕ → ℕ → List Event
    made s x = combinations c.wait_places s x (lane_after_leaving c acted s x) (arrivals c acted s x)

    pub no_meetings : acts_on a meetings ≡ []
    no_meetings =
        let row = λ (s : ℕ) (h : s < c.stages). each-places (λ (es : List Event). AllByRecursion IsNoAct es) (size c) (λ x. made s x) (λ x k. each_of_lane c.wait_places s x (lane_after_leaving c acted s x) (arrivals c acted s x)) in
        let rows = each-places (λ (r : List (List Event)). AllByRecursion (λ (es : List Event). AllByRecursion IsNoAct es) r) c.stages (λ s. places (size c) (λ x. made s x)) row in
        no_acts meetings (each-joined IsNoAct (joined (table c.stages (size c) made)) (each-joined (λ (es : List Event). AllByRecursion IsNoAct es) (table c.stages (size c) made) rows))

    pub acts_of_cycle : acts_on a (cycle c program m).events ≡ acts_on a servings
    acts_of_cycle =
        ap (λ es. acts_on a es) events_are
        ∙ (acts-append ((deliveries ++ servings) ++ meetings) issues
        ∙ rw (acts-append (deliveries ++ servings) meetings, acts-append deliveries servings, no_deliveries, no_meetings, no_issues, append-nil (acts_on a servings), append-nil (acts_on a servings)) refl)

    -- in a cycle in which each module serves other cells there is no act on this one
    pub no_act : ((k : ℕ) → k < size c → ServesOther a (module_at (reply_phase c m) k)) → acts_on a (cycle c program m).events ≡ []
    no_act h = acts_of_cycle ∙ none_listed (size c) (λ k. serving k (served (module_at (reply_phase c m) k))) (λ k l. serves_other k (module_at (reply_phase c m) k) (h k l))

    pub delivery_listed : (p : ℕ) (r : ReplyMessage) → p < size c → delivered c m p ≡ Some r → Contains (cycle c program m).events (Delivered r)
    delivery_listed p r hp e =
        let there = present_at (size c) (λ q. delivery (delivered c m q)) p (Delivered r) hp (ap (λ o. delivery o) e) in
        subst (λ es. Contains es (Delivered r)) (sym events_are)
        (Contains-append_left ((deliveries ++ servings) ++ meetings) issues (Delivered r) (Contains-append_left (deliveries ++ servings) meetings (Delivered r) (Contains-append_left deliveries servings (Delivered r) there)))
