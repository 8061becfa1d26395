-- the module serves the hot request as one
use Rattle.std.proofs.Common.{◌≡◌, ◌≢◌, ℕ, suc, ◌+◌, ◌-◌, ◌/◌, ◌%◌, ◌^◌, ◌<◌, ◌≤◌, Bool, true, false, refl, arith, sym, subst, ◌∙◌, ap}
use Rattle.std.specs.Prelude.{Option, Some, None, IfSome, ◌==◌}
use Rattle.std.proofs.Math.Nat.{div-one, mod-eq_of_lt}
use Rattle.ultra_msg.specs.{declared.{Request.Request, Reply.Reply}, Act.act}
use Rattle.ultra_mem.specs.declared.{Placed.Placed, Served.Served as Act}
use Rattle.ultra_mem.specs.Serve.{ModuleState, value_at, act_of, after_serving, serve, served}
use Rattle.ultra_model.specs.{Machine.{Settings, Machine, size, last_stage, module_at}, Ranges.AreInRange, Routed.module_of}
use Rattle.ultra_model.specs.Phases.{reply_before, reply_phase, memory_phase, request_phase, entering, with_request}
use Rattle.ultra_model.proofs.{Routes.turns_back, AtPlaces.{memory_module-memory_phase, memory_module-request_phase, replies-request_phase}}
use Rattle.ultra_serial_law.proofs.{Fronts.front_cell, Quiet.{none_before, lane_unsplit, no_replies, memory_module_stays}, Moving.{enters_at, clear_of_all, left_everywhere}, Calm.clear_replied}
use Rattle.ultra_serial_law.proofs.Stages.{is_on, IsAsked, fronts, placed, held, IsInside, IsServed, IsAtStage}

-- a request that comes to a module leaves the reply behind it
pub same_output : (c : Settings) (memory_module : ModuleState) (o : Option Request) → (with_request c memory_module o).out ≡ memory_module.out
same_output c memory_module None = refl
same_output c memory_module (Some r) = refl

module _ (c : Settings) (range : AreInRange c) (a n : ℕ) (asked : ℕ → Request) (each : IsAsked c a asked) (some_waits : 1 ≤ c.wait_places) where
  -- after the last stage the hot line is its module
  pub leads_last : (k : ℕ) → k < size c → is_on c a c.stages k ≡ (k == module_of c a)
  leads_last k hk =
      let none : c.stages - c.stages ≡ 0 = omega arith in
      let low : k % 2 ^ c.stages ≡ k = mod-eq_of_lt hk in
      let high : module_of c a / 2 ^ (c.stages - c.stages) ≡ module_of c a = ap (λ d. module_of c a / 2 ^ d) none ∙ div-one (module_of c a) in
      rw (low, high) refl

  input_if : (memory_module : ModuleState) (b : Bool) (r : Request) → memory_module.inp ≡ None → (with_request c memory_module (elim b [ true ↦ Some r | false ↦ None ])).inp ≡ elim b [ true ↦ Some (placed c r) | false ↦ None ]
  input_if memory_module true r h = refl
  input_if memory_module false r h = h

  pub hot_request_enters : (s : ℕ) (m : Machine) → suc s ≡ c.stages → IsAtStage c a n asked s m → IsInside c a n asked (request_phase c m)
  hot_request_enters s m last w =
      let enters = enters_at c range a n asked each some_waits s m w last in
      record {
        clear = clear_of_all c range a n asked each some_waits s m w last;
        left = left_everywhere c range a n asked each some_waits s m w last;
        inputs = λ k hk.
            ap (λ (b : ModuleState). b.inp) (memory_module-request_phase c m k hk)
            ∙ (ap (λ o. (with_request c (module_at m k) o).inp) (enters k hk)
            ∙ input_if (module_at m k) (is_on c a c.stages k) (fronts c n asked c.stages k) (w.silent.modules k hk).no_request);
        outputs = λ k hk.
            ap (λ (b : ModuleState). b.out) (memory_module-request_phase c m k hk)
            ∙ (same_output c (module_at m k) (entering c m k) ∙ (w.silent.modules k hk).no_reply);
        replies = λ t y ht hy. replies-request_phase c m t y ∙ w.silent.replies t y ht hy;
      }

  module _ (m : Machine) (w : IsInside c a n asked m) where
    nothing_comes : (s x : ℕ) → s < c.stages → x < size c → reply_before c m s x ≡ None
    nothing_comes s x hs hx = none_before c range m s x hs hx (λ h. w.replies (s + 1) _ h (turns_back c range x hx).entry_small) (λ h. w.outputs x hx)

    pub inside_replied : IsInside c a n asked (reply_phase c m)
    inside_replied =
        let some = range.some_stages in
        let same = λ (k : ℕ) (hk : k < size c). memory_module_stays c range m k hk (nothing_comes (last_stage c) k (omega arith) hk) in
        record {
          clear = clear_replied c range a m c.stages (omega arith) w.clear (λ y hy. w.replies 0 y (omega arith) hy);
          left = record { records = λ t x ht hx. rw (lane_unsplit c range m t x ht hx (nothing_comes t x ht hx)) (w.left.records t x ht hx) };
          inputs = λ k hk. rw (same k hk) (w.inputs k hk);
          outputs = λ k hk. rw (same k hk) (w.outputs k hk);
          replies = λ t y ht hy. no_replies c range m t y ht hy (w.replies t y ht hy) (λ x hx. nothing_comes t x ht hx);
        }

    -- ---- the act
    serves : (b : ModuleState) (i : Option Placed) → b.out ≡ None → b.inp ≡ i → serve b ≡ after_serving b i
    serves b i e f = rw (e, f) refl

    abbrev answer : ℕ → Placed → Reply
    answer k p = (act p.request.op (value_at (module_at m k) p)).1

    made_if : (k : ℕ) (b : Bool) (r : Request) → r.cell ≡ a → (module_at m k).out ≡ None → b ≡ true
        → (after_serving (module_at m k) (elim b [ true ↦ Some (placed c r) | false ↦ None ])).out ≡ Some record { pe = r.pe; cell = a; reply = answer k (placed c r) }
    made_if k true r e f h = ap (λ z. Some record { pe = r.pe; cell = z; reply = answer k (placed c r) }) e
    made_if k false r e f h = absurd cc

    none_if : (k : ℕ) (b : Bool) (r : Request) → (module_at m k).out ≡ None → b ≡ false → (after_serving (module_at m k) (elim b [ true ↦ Some (placed c r) | false ↦ None ])).out ≡ None
    none_if k true r f h = absurd cc
    none_if k false r f h = f

    nothing_left : (k : ℕ) (b : Bool) (r : Request) → (module_at m k).inp ≡ elim b [ true ↦ Some (placed c r) | false ↦ None ] → (after_serving (module_at m k) (elim b [ true ↦ Some (placed c r) | false ↦ None ])).inp ≡ None
    nothing_left k true r h = refl
    nothing_left k false r h = h

    serves_held : (k : ℕ) → k < size c → serve (module_at m k) ≡ after_serving (module_at m k) (held c a n asked k)
    serves_held k hk = serves (module_at m k) (held c a n asked k) (w.outputs k hk) (w.inputs k hk)

    memory_module_is : (k : ℕ) → k < size c → module_at (memory_phase c m) k ≡ after_serving (module_at m k) (held c a n asked k)
    memory_module_is k hk = memory_module-memory_phase c m k hk ∙ serves_held k hk

    pub hot_request_is_served : IsServed c a n asked (memory_phase c m)
    unfolding memory_phase
    hot_request_is_served = record {
      calm = record {
        clear = record { queues = w.clear.queues; interfaces = w.clear.interfaces };
        inputs = λ k hk.
            let r = fronts c n asked c.stages k in
            let none = ap (λ (b : ModuleState). b.inp) (memory_module_is k hk) ∙ nothing_left k (is_on c a c.stages k) r (w.inputs k hk) in
            subst (λ (i : Option Placed). IfSome i (λ (p : Placed). p.request.cell ≢ a)) (sym none) tt;
      };
      left = record { records = w.left.records };
      outputs = λ k hk.
          let r = fronts c n asked c.stages k in
          let b = is_on c a c.stages k in
          let out = ap (λ (v : ModuleState). v.out) (memory_module_is k hk) in
          record {
            on = λ e. (answer k (placed c r), out ∙ made_if k b r (front_cell c range a n asked each c.stages k hk) (w.outputs k hk) e);
            off = λ e. out ∙ none_if k b r (w.outputs k hk) e;
          };
      replies = w.replies;
    }

    -- what each module serves
    served_if : (memory_module : ModuleState) (b : Bool) (p : Placed) → memory_module.out ≡ None → memory_module.inp ≡ elim b [ true ↦ Some p | false ↦ None ] → served memory_module ≡ elim b [ true ↦ act_of memory_module (Some p) | false ↦ None ]
    served_if memory_module true p e f = rw (e, f) refl
    served_if memory_module false p e f = rw (e, f) refl

    pub served_here : (k : ℕ) → k < size c → served (module_at m k) ≡ elim (k == module_of c a) [ true ↦ act_of (module_at m k) (Some (placed c (fronts c n asked c.stages k))) | false ↦ None ]
    served_here k hk =
        let f : Bool → Option Act = λ b. elim b [ true ↦ act_of (module_at m k) (Some (placed c (fronts c n asked c.stages k))) | false ↦ None ] in
        served_if (module_at m k) (is_on c a c.stages k) (placed c (fronts c n asked c.stages k)) (w.outputs k hk) (w.inputs k hk) ∙ ap f (leads_last k hk)
