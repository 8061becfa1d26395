-- a step of a processing element. With no cell open the paracomputer makes it too, or it issues a
-- request and the paracomputer waits with the operation. At a fence with an open cell it stalls
use Rattle.std.proofs.Common.{◌≡◌, ℕ, zero, suc, ◌+◌, ◌*◌, ◌<◌, ◌≤◌, List, [], ◌∷◌, ◌++◌, length, true, false, Bool, refl, arith, sym, ◌∙◌, ap, subst, ◌⊎◌, inl, inr, ⊎_elim}
use Rattle.std.specs.Prelude.{Option, Some, None, IfSome, slice_get, slice_index, slice_index_or, slice_set}
use Rattle.std.specs.List.{AllByRecursion}
use Rattle.std.proofs.lemmas.{Bool.{cases_lt, cases_Bool}, List.{get_or-set_same, get_or-set_other, length-set}}
use Rattle.ultra_msg.specs.declared.{Request.Request, Event.{Event, TheVariants.{Delivered, Served, Combined, Issued}}}
use Rattle.ultra_pni.specs.{declared.OpenCell.OpenCell, Interface.Interface}
use Rattle.ultra_isa.specs.{declared.Instr.Instr, Step.{Core, fresh_core, StepResult, stays, step_of}}
use Rattle.ultra_isa.specs.declared.Step.TheVariants as step
use Rattle.ultra_model.specs.{Machine.{Settings, Element, size, site}, Phases.issues_after as count_after}
use Rattle.ultra_model.proofs.{Each.each-weaker, Counting.is_reference}
use Rattle.ultra_serial_law.specs.{declared.{LoggedIssue.LoggedIssue, Entry.Entry as Done}, Log.{latest_number, is_issue_for}, Legal.{Cells, leaf_of_entry}}
use Rattle.ultra_serial_law.proofs.{Explained.IsIn, Issued.{NewIssue, each_issue}, Named.IsLogged, Tidy.{is_that, that_is}, RequestForest.in_holds, ProcessorForest.{issues_after, issues_noted}}
use Rattle.ultra_para.specs.{Para.{Para, core_at, alone, para_step, run_para}, Careful.is_careful}
use Rattle.ultra_para.proofs.{Alone.{same_step, reference_step, careful_next, fence_stalls}, Serving.step_alone}
use Rattle.ultra_para.proofs.Relation.{IsServed, IsServedIssue, AreServed, IsServedOr, IsWaiting, IsIdle, IsAsking, IsActed, State, AreRelated, opening, opens_nothing}

-- ---- what holds of each new issue, made weaker
new_weaker : (P Q : LoggedIssue → Type 0) (n : ℕ) (es : List Event) → ((i : LoggedIssue) → P i → Q i) → AllByRecursion (NewIssue P n) es → AllByRecursion (NewIssue Q n) es
new_weaker P Q n [] f h = tt
new_weaker P Q n (Delivered r ∷ es) f h = (tt, new_weaker P Q n es f h.1)
new_weaker P Q n (Served k r reply now ∷ es) f h = (tt, new_weaker P Q n es f h.1)
new_weaker P Q n (Combined s x a p q g ∷ es) f h = (tt, new_weaker P Q n es f h.1)
new_weaker P Q n (Issued r k ∷ es) f h = (f _ h.0, new_weaker P Q n es f h.1)

-- ---- the latest number after new issues
number-append : (p a : ℕ) (is : List LoggedIssue) (i : LoggedIssue) (n : ℕ) → latest_number p a (is ++ i ∷ []) n ≡ elim (is_issue_for p a i) [ true ↦ i.number | false ↦ latest_number p a is n ]
number-append p a [] i n = refl
number-append p a (j ∷ is) i n = number-append p a is i (elim (is_issue_for p a j) [ true ↦ j.number | false ↦ n ])

number_by : (p a : ℕ) (is : List LoggedIssue) (i : LoggedIssue) (b : Bool) → is_issue_for p a i ≡ b → latest_number p a (is ++ i ∷ []) 0 ≡ elim b [ true ↦ i.number | false ↦ latest_number p a is 0 ]
number_by p a is i b e = let f : Bool → ℕ = λ t. elim t [ true ↦ i.number | false ↦ latest_number p a is 0 ] in number-append p a is i 0 ∙ ap f e

not_for : (p a : ℕ) (i : LoggedIssue) → (i.pe ≡ p → ⊥) → is_issue_for p a i ≡ false
not_for p a i h = ⊎_elim (λ e. absurd (h (is_that p a i.pe i.cell e).0)) (λ e. e) (cases_Bool (is_reference p a i.pe i.cell))

latest_kept : (n p a : ℕ) (es : List Event) (is : List LoggedIssue) → AllByRecursion (NewIssue (λ i. i.pe ≡ p → ⊥) n) es → latest_number p a (issues_noted n es is) 0 ≡ latest_number p a is 0
latest_kept n p a [] is h = refl
latest_kept n p a (Delivered r ∷ es) is h = latest_kept n p a es is h.1
latest_kept n p a (Served k r reply now ∷ es) is h = latest_kept n p a es is h.1
latest_kept n p a (Combined s x b q r f ∷ es) is h = latest_kept n p a es is h.1
latest_kept n p a (Issued r k ∷ es) is h =
    let i : LoggedIssue = record { pe = r.pe; number = k; cell = r.cell; op = r.op; cycle = n } in
    latest_kept n p a es (issues_after n is (Issued r k)) h.1 ∙ number_by p a is i false (not_for p a i h.0)

-- the request has this number already, or it comes
abbrev IsNumbered : ℕ → ℕ → ℕ → List Event → List LoggedIssue → Type 0
IsNumbered p a k es is = (latest_number p a is 0 ≡ k) ⊎ ((r : Request) × IsIn (Issued r k) es × (r.pe ≡ p) × (r.cell ≡ a))

numbered_next : (n p a k j : ℕ) (r : Request) (es : List Event) (is : List LoggedIssue) (b : Bool) → is_reference p a r.pe r.cell ≡ b → (r.pe ≡ p → j ≡ k) → IsNumbered p a k (Issued r j ∷ es) is → IsNumbered p a k es (issues_after n is (Issued r j))
numbered_next n p a k j r es is true e f h =
    let i : LoggedIssue = record { pe = r.pe; number = j; cell = r.cell; op = r.op; cycle = n } in
    inl (number_by p a is i true e ∙ f (is_that p a r.pe r.cell e).0)
numbered_next n p a k j r es is false e f (inl h) =
    let i : LoggedIssue = record { pe = r.pe; number = j; cell = r.cell; op = r.op; cycle = n } in
    inl (number_by p a is i false e ∙ h)
numbered_next n p a k j r es is false e f (inr (q, inl z, pe, cell)) =
    let same : r ≡ q = cc in
    let here : r.pe ≡ p = ap (λ (u : Request). u.pe) same ∙ pe in
    let there : r.cell ≡ a = ap (λ (u : Request). u.cell) same ∙ cell in
    let is_it : is_reference p a r.pe r.cell ≡ true = rw (here, there) (that_is p a) in
    let both : true ≡ false = sym is_it ∙ e in
    absurd cc
numbered_next n p a k j r es is false e f (inr (q, inr z, pe, cell)) = inr (q, z, pe, cell)

latest_new : (n p a k : ℕ) (es : List Event) (is : List LoggedIssue) → AllByRecursion (NewIssue (λ i. i.pe ≡ p → i.number ≡ k) n) es → IsNumbered p a k es is → latest_number p a (issues_noted n es is) 0 ≡ k
latest_new n p a k [] is h (inl e) = e
latest_new n p a k [] is h (inr z) = absurd z.1
latest_new n p a k (Delivered r ∷ es) is h (inl e) = latest_new n p a k es is h.1 (inl e)
latest_new n p a k (Delivered r ∷ es) is h (inr (q, inl z, pe, cell)) = absurd cc
latest_new n p a k (Delivered r ∷ es) is h (inr (q, inr z, pe, cell)) = latest_new n p a k es is h.1 (inr (q, z, pe, cell))
latest_new n p a k (Served m r reply now ∷ es) is h (inl e) = latest_new n p a k es is h.1 (inl e)
latest_new n p a k (Served m r reply now ∷ es) is h (inr (q, inl z, pe, cell)) = absurd cc
latest_new n p a k (Served m r reply now ∷ es) is h (inr (q, inr z, pe, cell)) = latest_new n p a k es is h.1 (inr (q, z, pe, cell))
latest_new n p a k (Combined s x b o u f ∷ es) is h (inl e) = latest_new n p a k es is h.1 (inl e)
latest_new n p a k (Combined s x b o u f ∷ es) is h (inr (q, inl z, pe, cell)) = absurd cc
latest_new n p a k (Combined s x b o u f ∷ es) is h (inr (q, inr z, pe, cell)) = latest_new n p a k es is h.1 (inr (q, z, pe, cell))
latest_new n p a k (Issued r j ∷ es) is h g =
    latest_new n p a k es (issues_after n is (Issued r j)) h.1 (numbered_next n p a k j r es is (is_reference p a r.pe r.cell) refl h.0 g)

-- ---- one processing element
-- a new issue of p is that of the request which it sent, with this number
abbrev pub IsNewOf : Option Request → ℕ → LoggedIssue → Type 0
IsNewOf None k i = ⊥
IsNewOf (Some r) k i = (i.number ≡ k) × (i.cell ≡ r.cell) × (i.op ≡ r.op)

module _ (c : Settings) (some_open : 1 ≤ c.most_open) (program : List Instr) (careful : is_careful program ≡ true) (n : ℕ) (es : List Event) (is : List LoggedIssue) (list : List Done)
    (all_logged : (d : Done) → IsIn d list → IsLogged is (leaf_of_entry d)) where
  abbrev pub later : List LoggedIssue
  later = issues_noted n es is

  -- the paracomputer's processing element makes the step, or stays
  abbrev pub Turned : ℕ → Core → Core → List OpenCell → ℕ → Type 0
  Turned p q now os k = ((alone c program p q).sent ≡ None) × State c program later list p now os k (alone c program p q).core ⊎ State c program later list p now os k q

  module _ (p : ℕ) (now : Core) (i : Interface) (k : ℕ) (q : Core) where
    abbrev t : StepResult
    t = step_of (site c p) c.most_open program now i

    -- ---- no issue of p
    module _ (none : AllByRecursion (NewIssue (λ (u : LoggedIssue). u.pe ≡ p → ⊥) n) es) where
      still_served : AreServed is list p k → AreServed later list p k
      still_served h = each_issue (IsServedIssue list p k) n es is (new_weaker (λ (u : LoggedIssue). u.pe ≡ p → ⊥) (IsServedIssue list p k) n es (λ u f e. absurd (f e)) none) h

      still_waits : (core : Core) (os : List OpenCell) → IsWaiting c program is p core os k → IsWaiting c program later p core os k
      still_waits core os w = record {
        before = w.before;
        request = w.request;
        number = w.number;
        count = w.count;
        sent = w.sent;
        core = w.core;
        opened = w.opened;
        running = w.running;
        fence = w.fence;
        latest = latest_kept n p w.request.cell es is none ∙ w.latest;
      }

      still_asks : (core : Core) (os : List OpenCell) → IsAsking c program is list p core os k q → IsAsking c program later list p core os k q
      unfolding still_waits
      still_asks core os s = record {
        waiting = still_waits core os s.waiting;
        same = s.same;
        unserved = s.unserved;
        others = each_issue (IsServedOr list p k s.waiting.number s.waiting.request) n es is (new_weaker (λ (u : LoggedIssue). u.pe ≡ p → ⊥) (IsServedOr list p k s.waiting.number s.waiting.request) n es (λ u f e. absurd (f e)) none) s.others;
      }

      still_acted : (core : Core) (os : List OpenCell) → IsActed c program is list p core os k q → IsActed c program later list p core os k q
      unfolding still_waits
      still_acted core os s = record {
        waiting = still_waits core os s.waiting;
        entry = s.entry;
        stands = s.stands;
        pe = s.pe;
        number = s.number;
        same = s.same;
        served = still_served s.served;
      }

    -- ---- at a fence with an open cell
    stalled : IsWaiting c program is p now i.opened k → t ≡ stays step.Stalled now i
    stalled w =
        let o = opening c program p w.before w.request w.sent in
        fence_stalls (site c p) c.most_open program now i record { cell = w.request.cell; target = o.target } [] w.running w.fence (sym w.opened ∙ o.opened)

    none_of : (o : Option Request) → o ≡ None → AllByRecursion (NewIssue (λ (u : LoggedIssue). u.pe ≡ p → IsNewOf o k u) n) es → AllByRecursion (NewIssue (λ (u : LoggedIssue). u.pe ≡ p → ⊥) n) es
    none_of None e h = h
    none_of (Some r) e h = absurd cc

    module _ (new : AllByRecursion (NewIssue (λ (u : LoggedIssue). u.pe ≡ p → IsNewOf t.sent k u) n) es) (issue_listed : IfSome t.sent (λ (r : Request). (r.pe ≡ p) × IsIn (Issued r k) es)) where
      fence_turn : (w : IsWaiting c program is p now i.opened k) → ((none : AllByRecursion (NewIssue (λ (u : LoggedIssue). u.pe ≡ p → ⊥) n) es) → State c program later list p now i.opened k q) → Turned p q t.core t.interface.opened (count_after k t.sent)
      fence_turn w f =
          let none = none_of t.sent (ap (λ (u : StepResult). u.sent) (stalled w)) new in
          rw (stalled w) (inr (f none))

      -- ---- with no cell open
      moved : IsIdle c program is list p now i.opened k q → t.sent ≡ None → Turned p q t.core t.interface.opened (count_after k t.sent)
      moved s e =
          let alike = same_step (site c p) c.most_open some_open program now i s.none in
          let none = none_of t.sent e new in
          let quiet : (alone c program p now).sent ≡ None = sym alike.sent ∙ e in
          let idle : IsIdle c program later list p t.core t.interface.opened k (alone c program p now).core = record {
            none = alike.opened ∙ opens_nothing c program p now quiet;
            same = sym alike.core;
            served = still_served none s.served;
          } in
          rw (e, s.same) (inl (quiet, inl idle))

      -- all entries of p have smaller numbers
      earlier : IsIdle c program is list p now i.opened k q → IsServed list p k → ⊥
      earlier s h =
          let z = all_logged h.0 h.1 in
          let g = (in_holds (IsServedIssue list p k) z.0 is s.served z.1) (z.2 ∙ h.2) in
          let less = g.0 in
          let same = z.3 in
          let number = h.3 in
          absurd (omega (arith, less, same, number))

      new_of : (r : Request) → t.sent ≡ Some r → AllByRecursion (NewIssue (λ (u : LoggedIssue). u.pe ≡ p → IsNewOf (Some r) k u) n) es
      new_of r e = subst (λ o. AllByRecursion (NewIssue (λ (u : LoggedIssue). u.pe ≡ p → IsNewOf o k u) n) es) e new

      listed_of : (r : Request) → t.sent ≡ Some r → (r.pe ≡ p) × IsIn (Issued r k) es
      listed_of r e = subst (λ o. IfSome o (λ (u : Request). (u.pe ≡ p) × IsIn (Issued u k) es)) e issue_listed

      asks : IsIdle c program is list p now i.opened k q → (r : Request) → t.sent ≡ Some r → Turned p q t.core t.interface.opened (count_after k t.sent)
      asks s r e =
          let alike = same_step (site c p) c.most_open some_open program now i s.none in
          let sends : (alone c program p now).sent ≡ Some r = sym alike.sent ∙ e in
          let is_one = reference_step (site c p) program now r sends in
          let next : t.core ≡ record now { pc = now.pc + 1 } = alike.core ∙ is_one.core in
          let news = new_of r e in
          let there = listed_of r e in
          let waiting : IsWaiting c program later p t.core t.interface.opened (k + 1) = record {
            before = now;
            request = r;
            number = k;
            count = omega arith;
            sent = sends;
            core = sym alike.core;
            opened = sym alike.opened;
            running = ap (λ (v : Core). v.activity) next ∙ is_one.running;
            fence = ap (λ (v : Core). slice_get program v.pc) next ∙ careful_next program now.pc is_one.instr careful is_one.at is_one.refers;
            latest = latest_new n p r.cell k es is (new_weaker (λ (u : LoggedIssue). u.pe ≡ p → IsNewOf (Some r) k u) (λ (u : LoggedIssue). u.pe ≡ p → u.number ≡ k) n es (λ u f z. (f z).0) news) (inr (r, there.1, there.0, refl));
          } in
          let asking : IsAsking c program later list p t.core t.interface.opened (k + 1) q = record {
            waiting = waiting;
            same = s.same;
            unserved = earlier s;
            others = each_issue (IsServedOr list p (k + 1) k r) n es is
                (new_weaker (λ (u : LoggedIssue). u.pe ≡ p → IsNewOf (Some r) k u) (IsServedOr list p (k + 1) k r) n es (λ u f z. let g = f z in let same = g.0 in (omega (arith, same), inr g)) news)
                (each-weaker (IsServedIssue list p k) (IsServedOr list p (k + 1) k r) is (λ u f z. let g = f z in let less = g.0 in (omega (arith, less), inl g.1)) s.served);
          } in
          rw e (inr (inr (inl asking)))

      idle_turn : IsIdle c program is list p now i.opened k q → (o : Option Request) → t.sent ≡ o → Turned p q t.core t.interface.opened (count_after k t.sent)
      idle_turn s None e = moved s e
      idle_turn s (Some r) e = asks s r e

      pub turn : State c program is list p now i.opened k q → Turned p q t.core t.interface.opened (count_after k t.sent)
      turn (inl s) = idle_turn s t.sent refl
      turn (inr (inl s)) = fence_turn s.waiting (λ none. inr (inl (still_asks none now i.opened s)))
      turn (inr (inr s)) = fence_turn s.waiting (λ none. inr (inr (still_acted none now i.opened s)))

-- ---- all processing elements, in order
module _ (c : Settings) (program : List Instr) (is later : List LoggedIssue) (list : List Done) (cells : Cells) (e u : ℕ → Element) where
  abbrev pub Turns : ℕ → Core → Type 0
  Turns p q = ((alone c program p q).sent ≡ None) × State c program later list p (u p).core (u p).interface.opened (u p).issued (alone c program p q).core ⊎ State c program later list p (u p).core (u p).interface.opened (u p).issued q

  -- those below j have had their turn
  record Halfway (j : ℕ) (v : Para) : Type 0 where
    pub long : length v.cells ≡ size c * c.cells
    pub wide : length v.cores ≡ size c
    pub held : (a : ℕ) → a < size c * c.cells → slice_index v.cells a ≡ cells a
    pub below : (p : ℕ) → p < j → State c program later list p (u p).core (u p).interface.opened (u p).issued (core_at v p)
    pub above : (p : ℕ) → p < size c → j ≤ p → State c program is list p (e p).core (e p).interface.opened (e p).issued (core_at v p)

  -- some steps lead there
  pub record IsReachedFrom (v : Para) (There : Para → Type 0) : Type 0 where
    pub schedule : List ℕ
    pub elements : AllByRecursion (λ p. p < size c) schedule
    pub there : There (run_para c program v schedule)

  module _ (turns : (p : ℕ) (q : Core) → p < size c → State c program is list p (e p).core (e p).interface.opened (e p).issued q → Turns p q) where
    halfway_stays : (j : ℕ) (v : Para) → j < size c → Halfway j v → State c program later list j (u j).core (u j).interface.opened (u j).issued (core_at v j) → Halfway (suc j) v
    halfway_stays j v hj h s = record {
      long = h.long;
      wide = h.wide;
      held = h.held;
      below = λ p l. ⊎_elim (λ z. h.below p z) (λ z. let same : j ≡ p = omega (arith, l, z) in subst (λ i. State c program later list i (u i).core (u i).interface.opened (u i).issued (core_at v i)) same s) (cases_lt p j);
      above = λ p hp l. h.above p hp (omega (arith, l));
    }

    core_there : (v : Para) (j : ℕ) (x : Core) → j < size c → length v.cores ≡ size c → slice_index_or (slice_set v.cores j x) j fresh_core ≡ x
    core_there v j x hj w = get_or-set_same v.cores j x fresh_core (omega (arith, hj, w))

    halfway_moves : (j : ℕ) (v : Para) → j < size c → Halfway j v → (alone c program j (core_at v j)).sent ≡ None → State c program later list j (u j).core (u j).interface.opened (u j).issued (alone c program j (core_at v j)).core
        → Halfway (suc j) (para_step c program v j)
    halfway_moves j v hj h quiet s =
        let x = (alone c program j (core_at v j)).core in
        let cs = slice_set v.cores j x in
        let apart_below : (p : ℕ) → p < j → core_at v p ≡ slice_index_or cs p fresh_core = λ p l. sym (get_or-set_other v.cores j p x fresh_core (omega (arith, l))) in
        let apart_above : (p : ℕ) → suc j ≤ p → core_at v p ≡ slice_index_or cs p fresh_core = λ p l. sym (get_or-set_other v.cores j p x fresh_core (omega (arith, l))) in
        let here : State c program later list j (u j).core (u j).interface.opened (u j).issued (slice_index_or cs j fresh_core) = rw (core_there v j x hj h.wide) s in
        let one : Halfway (suc j) record { cells = v.cells; cores = cs } = record {
          long = h.long;
          wide = length-set v.cores j x ∙ h.wide;
          held = h.held;
          below = λ p l. ⊎_elim
              (λ z. subst (λ y. State c program later list p (u p).core (u p).interface.opened (u p).issued y) (apart_below p z) (h.below p z))
              (λ z. let same : j ≡ p = omega (arith, l, z) in subst (λ i. State c program later list i (u i).core (u i).interface.opened (u i).issued (slice_index_or cs i fresh_core)) same here) (cases_lt p j);
          above = λ p hp l. subst (λ y. State c program is list p (e p).core (e p).interface.opened (e p).issued y) (apart_above p l) (h.above p hp (omega (arith, l)));
        } in
        rw (step_alone c program v j (core_at v j) refl quiet) one

    go_on : (d j : ℕ) (v : Para) → j + suc d ≡ size c → Halfway j v → Turns j (core_at v j) → ((w : Para) → Halfway (suc j) w → IsReachedFrom w (Halfway (size c))) → IsReachedFrom v (Halfway (size c))
    go_on d j v f h (inl z) rest =
        let r = rest (para_step c program v j) (halfway_moves j v (omega (arith, f)) h z.0 z.1) in
        record { schedule = j ∷ r.schedule; elements = (omega (arith, f), r.elements); there = r.there }
    go_on d j v f h (inr z) rest = rest v (halfway_stays j v (omega (arith, f)) h z)

    all_from : (d j : ℕ) (v : Para) → j + d ≡ size c → Halfway j v → IsReachedFrom v (Halfway (size c))
    all_from zero j v f h =
        let same : j ≡ size c = omega (arith, f) in
        record { schedule = []; elements = tt; there = subst (λ i. Halfway i v) same h }
    all_from (suc d) j v f h = go_on d j v f h (turns j (core_at v j) (omega (arith, f)) (h.above j (omega (arith, f)) (omega arith))) (λ w g. all_from d (suc j) w (omega (arith, f)) g)

    pub all_turns : (v : Para) → AreRelated c program is list cells e v → IsReachedFrom v (AreRelated c program later list cells u)
    all_turns v w =
        let r = all_from (size c) 0 v (omega arith) record { long = w.long; wide = w.wide; held = w.held; below = λ p l. absurd (omega (arith, l)); above = λ p hp l. w.elements p hp } in
        let h = r.there in
        record { schedule = r.schedule; elements = r.elements; there = record { long = h.long; wide = h.wide; held = h.held; elements = h.below } }
