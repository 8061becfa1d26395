-- requests of all processing elements to one cell are served by one act
use Rattle.std.proofs.Common.{◌≡◌, ◌≢◌, ℕ, zero, suc, ◌+◌, ◌-◌, ◌*◌, ◌<◌, ◌≤◌, List, [], ◌∷◌, Bool, true, false, refl, arith, sym, subst, ◌∙◌, ap, ⊎_elim}
use Rattle.std.specs.Prelude.{Option, Some, None, ◌==◌, if◌then◌else◌, slice_index_or}
use Rattle.std.specs.List.{AllByRecursion, Contains}
use Rattle.std.proofs.lemmas.Bool.{cases_eq, cases_lt}
use Rattle.ultra_msg.specs.declared.{Request.Request, Event.TheVariants.Delivered}
use Rattle.ultra_mem.specs.{declared.Served.Served as Act, Serve.{act_of, served}}
use Rattle.ultra_pni.specs.Ring.{no_request}
use Rattle.ultra_isa.specs.declared.Instr.{Instr}
use Rattle.ultra_model.specs.{Machine.{Settings, Machine, size, module_at, element_at}, Places.present, Phases.{serving, reply_phase, cycle, after}, Ranges.AreInRange, Routed.{module_of, IsOwn}}
use Rattle.ultra_model.proofs.{Neighbours.{itself, other}, Routes.module_small, Sound.after_is_sound}
use Rattle.ultra_serial_law.specs.AllAtOnce.{acts_on, AreAllAt, AreServedAtOnce, HotCellLaw}
use Rattle.ultra_serial_law.proofs.{Fronts.front_cell, Quiet.input_stays, Calm.ServesOther, Module.{inside_replied, served_here}, Home.all_answered, Acts.{acts_of_cycle, one_listed, no_act, serves_one, delivery_listed}, Opened.pending_is_open}
use Rattle.ultra_serial_law.proofs.Cycle.{after_next, cycles_after, set_cycle, stage_cycle, last_cycle, inside_cycle, served_cycle, returned_cycle}
use Rattle.ultra_serial_law.proofs.Stages.{IsAsked, fronts, placed, IsInside, IsServed, IsReturned, IsSet, IsAtStage}

module _ (c : Settings) (range : AreInRange c) (some_waits : 1 ≤ c.wait_places) (program : List Instr) (n a : ℕ) (w : AreAllAt c a (after c program n)) where
  abbrev first : Machine
  first = after c program n

  -- what each processing element has asked for
  abbrev pub asked : ℕ → Request
  asked p = slice_index_or (element_at first p).interface.pending 0 no_request

  pending_is : (p : ℕ) → p < size c → (element_at first p).interface.pending ≡ asked p ∷ []
  pending_is p hp = let one = w.one_each p hp in rw one.1 refl

  is_own : (p : ℕ) → p < size c → (asked p).pe ≡ p
  is_own p hp = (subst (λ rs. AllByRecursion (IsOwn c p) rs) (pending_is p hp) ((after_is_sound c range program n).routes.pending p hp)).0.0

  is_for : (p : ℕ) → p < size c → (asked p).cell ≡ a
  is_for p hp = let one = w.one_each p hp in rw one.1 one.2

  pub each : IsAsked c a asked
  each = record { own = is_own; cell = is_for }

  is_set : IsSet c a n asked first
  is_set = record {
    lanes = w.lanes;
    silent = record { replies = w.replies; modules = w.idle };
    pending = pending_is;
    opened = λ p hp. rw (← is_for p hp) (pending_is_open c range first (after_is_sound c range program n).balance p (asked p) hp (is_own p hp) (pending_is p hp));
  }

  -- ---- where the hot requests are
  abbrev pub at : ℕ → Machine
  at k = after c program (n + k)

  abbrev Inside : Machine → Type 0
  Inside m = IsInside c a n asked m

  abbrev Served : Machine → Type 0
  Served m = IsServed c a n asked m

  abbrev Returned : ℕ → Machine → Type 0
  Returned s m = IsReturned c a n asked s m

  next : (k : ℕ) → at (suc k) ≡ cycle c program (at k)
  next k =
      let e : n + suc k ≡ suc (n + k) = omega arith in
      ap (λ j. after c program j) e ∙ after_next c program (n + k)

  start_at : at 0 ≡ first
  start_at = let e : n + 0 ≡ n = omega arith in ap (λ j. after c program j) e

  stage_at : (s : ℕ) → s < c.stages → IsAtStage c a n asked s (at (suc s))
  stage_at zero h =
      let one = set_cycle c program range a n asked each some_waits first (cycles_after c program n) is_set in
      subst (λ m. IsAtStage c a n asked 0 m) (sym (next 0 ∙ ap (λ m. cycle c program m) start_at)) one
  stage_at (suc s) h =
      let rest = stage_at s (omega arith) in
      let one = stage_cycle c program range a n asked each some_waits (at (suc s)) s h (cycles_after c program (n + suc s)) rest in
      subst (λ m. IsAtStage c a n asked (suc s) m) (sym (next (suc s))) one

  some_stages : suc (c.stages - 1) ≡ c.stages
  some_stages = let some = range.some_stages in omega arith

  pub inside_at : Inside (at (suc c.stages))
  inside_at =
      let last = c.stages - 1 in
      let rest = stage_at last (omega (arith, some_stages)) in
      let one = last_cycle c program range a n asked each some_waits (at (suc last)) last some_stages rest in
      subst (λ k. Inside (at (suc k))) some_stages (subst (λ m. Inside m) (sym (next (suc last))) one)

  served_at : Served (at (suc (suc c.stages)))
  served_at = subst (λ m. Served m) (sym (next (suc c.stages))) (inside_cycle c program range a n asked each some_waits (at (suc c.stages)) inside_at)

  returned_at : (j s : ℕ) → s + suc j ≡ c.stages → Returned s (at (suc (suc (suc (c.stages + j)))))
  returned_at zero s e =
      let same : c.stages ≡ c.stages + 0 = omega arith in
      let one = served_cycle c program range a n asked each some_waits (at (suc (suc c.stages))) s (omega (arith, e)) served_at in
      subst (λ k. Returned s (at (suc (suc (suc k))))) same (subst (λ m. Returned s m) (sym (next (suc (suc c.stages)))) one)
  returned_at (suc j) s e =
      let same : suc (c.stages + j) ≡ c.stages + suc j = omega arith in
      let rest = returned_at j (suc s) (omega (arith, e)) in
      let one = returned_cycle c program range a n asked each some_waits (at (suc (suc (suc (c.stages + j))))) s (omega (arith, e)) rest in
      subst (λ k. Returned s (at (suc (suc (suc k))))) same (subst (λ m. Returned s m) (sym (next (suc (suc (suc (c.stages + j)))))) one)

  -- ---- the acts
  abbrev acts_after : Machine → List Request
  acts_after m = acts_on a (cycle c program m).events

  none_from : (m : Machine) → ((k : ℕ) → k < size c → ServesOther a (module_at m k)) → acts_after m ≡ []
  none_from m h = no_act a c program m (λ k hk. rw (input_stays c range m k hk) (h k hk))

  none_from_set : acts_after first ≡ []
  none_from_set = none_from first (λ k hk. rw (w.idle k hk).no_request tt)

  none_from_stage : (s : ℕ) (m : Machine) → IsAtStage c a n asked s m → acts_after m ≡ []
  none_from_stage s m h = none_from m (λ k hk. rw (h.silent.modules k hk).no_request tt)

  -- the one request that is served
  abbrev pub the_request : Request
  the_request = fronts c n asked c.stages (module_of c a)

  pub one_from : (m : Machine) → Inside m → acts_after m ≡ the_request ∷ []
  one_from m h =
      let r = reply_phase c m in
      let home = module_of c a in
      let small = module_small c range a in
      let inside = inside_replied c range a n asked each some_waits m h in
      let p = λ (k : ℕ). placed c (fronts c n asked c.stages k) in
      let f : ℕ → Bool → Option Act = λ k b. elim b [ true ↦ act_of (module_at r k) (Some (p k)) | false ↦ None ] in
      let serves = λ (k : ℕ) (hk : k < size c). served_here c range a n asked each some_waits r inside k hk in
      let one = serves_one a home (module_at r home) (p home) (front_cell c range a n asked each c.stages home small) (serves home small ∙ ap (f home) (itself home)) in
      acts_of_cycle a c program m
      ∙ one_listed a (size c) (λ k. serving k (served (module_at r k))) home the_request small one
      (λ k hk apart. ap (λ o. acts_on a (present (serving k o ∷ []))) (serves k hk ∙ ap (f k) (other k home apart)))

  acts_at : (k : ℕ) → k ≤ 2 * c.stages + 2 → k ≢ c.stages + 1 → acts_after (at k) ≡ []
  acts_at zero h apart = ap (λ m. acts_after m) start_at ∙ none_from_set
  acts_at (suc k) h apart =
      ⊎_elim (λ l. none_from_stage k (at (suc k)) (stage_at k l))
      (λ l. ⊎_elim
      (λ e. subst (λ j. acts_after (at j) ≡ []) (sym e) (none_from (at (suc (suc c.stages))) served_at.calm.inputs))
      (λ ne.
      let j = k - c.stages - 2 in
      let time : suc (suc (suc (c.stages + j))) ≡ suc k = omega (arith, l, ne, apart, h) in
      let back = returned_at j (c.stages - suc j) (omega (arith, l, ne, apart, h)) in
      subst (λ i. acts_after (at i) ≡ []) time (none_from (at (suc (suc (suc (c.stages + j))))) back.calm.inputs)) (cases_eq (suc k) (suc (suc c.stages)))) (cases_lt k c.stages)

  pub events_at : (k : ℕ) → after c program (n + k + 1) ≡ cycle c program (at k)
  events_at k =
      let e : n + k + 1 ≡ suc (n + k) = omega arith in
      ap (λ j. after c program j) e ∙ after_next c program (n + k)

  once_at : (k : ℕ) → k ≤ 2 * c.stages + 2 → acts_after (at k) ≡ (if k == c.stages + 1 then the_request ∷ [] else [])
  once_at k h =
      let f : Bool → List Request = λ b. (if b then the_request ∷ [] else []) in
      ⊎_elim
      (λ e. let time : suc c.stages ≡ k = omega (arith, e) in
      let here : (k == c.stages + 1) ≡ true = rw e (itself (c.stages + 1)) in
      subst (λ j. acts_after (at j) ≡ the_request ∷ []) time (one_from (at (suc c.stages)) inside_at) ∙ sym (ap f here))
      (λ ne. acts_at k h ne ∙ sym (ap f (other k (c.stages + 1) ne))) (cases_eq k (c.stages + 1))

  home_at : Returned 0 (at (2 * c.stages + 2))
  home_at =
      let some = range.some_stages in
      let j = c.stages - 1 in
      let time : suc (suc (suc (c.stages + j))) ≡ 2 * c.stages + 2 = omega arith in
      subst (λ k. Returned 0 (at k)) time (returned_at j 0 (omega arith))

  pub served_at_once : AreServedAtOnce c program n a the_request
  served_at_once = record {
    once = λ k h. ap (λ (m : Machine). acts_on a m.events) (events_at k) ∙ once_at k h;
    answered = λ p hp.
        let last = 2 * c.stages + 2 in
        let one = all_answered c range a n asked each some_waits (at last) home_at p hp in
        (one.0, subst (λ (m : Machine). Contains m.events (Delivered record { pe = p; cell = a; reply = one.0 })) (sym (events_at last)) (delivery_listed a c program (at last) p record { pe = p; cell = a; reply = one.0 } hp one.1));
  }

pub hot_cell : HotCellLaw
hot_cell c range some_waits program n a w = (the_request c range some_waits program n a w, served_at_once c range some_waits program n a w)
