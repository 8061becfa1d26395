-- the hot replies go back stage by stage, until each processing element has its answer
use Rattle.std.proofs.Common.{◌≡◌, ℕ, suc, ◌+◌, ◌<◌, ◌≤◌, List, [], arith, sym, subst, ◌∙◌, ap}
use Rattle.std.specs.Prelude.{Some, None, slice_get}
use Rattle.ultra_msg.specs.declared.{Request.Request, Reply.Reply, ReplyMessage.ReplyMessage}
use Rattle.ultra_route.specs.Route.{shuffled, unshuffled}
use Rattle.ultra_mem.specs.Serve.{ModuleState}
use Rattle.ultra_isa.specs.declared.Instr.{Instr}
use Rattle.ultra_model.specs.Machine.{Settings, Machine, size, last_stage, replies_at, module_at}
use Rattle.ultra_model.specs.Phases.{reply_before, delivered, entering, reply_phase, memory_phase, request_phase, processor_phase}
use Rattle.ultra_model.specs.Ranges.{AreInRange}
use Rattle.ultra_model.proofs.{Routes.turns_back, ReplyBalance.{before_at_last, before_below}, AtPlaces.{replies-reply_phase, memory_module-request_phase, replies-request_phase}}
use Rattle.ultra_serial_law.proofs.{Meeting.front_first, Quiet.{none_before, lane_unsplit, no_replies}, Onward.leads_first, Calm.{calm_replied, calm_acted, calm_moved, left_moved, calm_processed}, Module.same_output, Returning.{one_reply, no_reply}}
use Rattle.ultra_serial_law.proofs.Stages.{IsAsked, fronts, IsCalm, IsReplyOn, IsServed, AreComing, IsReturned, HasLeft}

module _ (c : Settings) (range : AreInRange c) (a n : ℕ) (asked : ℕ → Request) (each : IsAsked c a asked) (some_waits : 1 ≤ c.wait_places) where
  -- ---- the reply phase
  module _ (s : ℕ) (hs : s < c.stages) (m : Machine) (calm : IsCalm c a m) (coming : AreComing c a n asked s m)
      (empty : (t y : ℕ) → t < suc s → y < size c → replies_at m t y ≡ []) (left : HasLeft c a n asked (suc s) m) where
    none_below : (t x : ℕ) → t < s → x < size c → reply_before c m t x ≡ None
    none_below t x ht hx =
        none_before c range m t x (omega arith) hx (λ h. empty (t + 1) _ (omega arith) (turns_back c range x hx).entry_small) (λ e. absurd (omega (arith, e, ht, hs)))

    comes_back : IsReturned c a n asked s (reply_phase c m)
    comes_back = record {
      calm = calm_replied c range a m calm (λ y hy. empty 0 y (omega arith) hy);
      left = record { records = λ t x ht hx. rw (lane_unsplit c range m t x (omega arith) hx (none_below t x ht hx)) (left.records t x (omega arith) hx) };
      here = λ y hy.
          let same = replies-reply_phase c m s y hs hy in
          record {
            on = λ e. let one = one_reply c range a n asked each some_waits m s hs coming y hy e in (one.0, ap (λ (rs : List ReplyMessage). slice_get rs 0) (same ∙ one.1));
            off = λ e. ap (λ (rs : List ReplyMessage). slice_get rs 0) (same ∙ no_reply c range a n asked each some_waits m s hs coming y hy e);
          };
      ahead = λ t y ht hy. no_replies c range m t y (omega arith) hy (empty t y (omega arith) hy) (λ x hx. none_below t x ht hx);
    }

  -- from the module
  pub served_comes : (s : ℕ) (m : Machine) → suc s ≡ c.stages → IsServed c a n asked m → IsReturned c a n asked s (reply_phase c m)
  served_comes s m last w =
      let hs : s < c.stages = omega (arith, last) in
      let is_last : s ≡ last_stage c = omega (arith, last) in
      let all : s + 1 ≡ c.stages = omega (arith, last) in
      comes_back s hs m w.calm
      record {
        come = λ x hx. subst (λ j. IsReplyOn c a n asked j x (reply_before c m s x)) (sym all) (subst (λ o. IsReplyOn c a n asked c.stages x o) (sym (before_at_last c range m s x is_last)) (w.outputs x hx));
        room = λ y hy. w.replies s y hs hy;
        records = λ x hx. w.left.records s x hs hx;
      }
      (λ t y ht hy. w.replies t y (omega arith) hy)
      record { records = λ t x ht hx. w.left.records t x (omega arith) hx }

  -- from the stage behind
  pub returned_comes : (s : ℕ) (m : Machine) → suc s < c.stages → IsReturned c a n asked (suc s) m → IsReturned c a n asked s (reply_phase c m)
  returned_comes s m more w =
      let hs : s < c.stages = omega (arith, more) in
      let next : s + 1 ≡ suc s = omega arith in
      comes_back s hs m w.calm
      record {
        come = λ x hx.
            let y = shuffled c.stages x in
            let turn = turns_back c range x hx in
            let at : IsReplyOn c a n asked (suc s) (unshuffled c.stages y) (slice_get (replies_at m (suc s) y) 0) = w.here y turn.entry_small in
            let line : IsReplyOn c a n asked (suc s) x (slice_get (replies_at m (suc s) y) 0) = subst (λ z. IsReplyOn c a n asked (suc s) z (slice_get (replies_at m (suc s) y) 0)) turn.back at in
            let there : IsReplyOn c a n asked (s + 1) x (slice_get (replies_at m (s + 1) y) 0) = subst (λ j. IsReplyOn c a n asked j x (slice_get (replies_at m j y) 0)) (sym next) line in
            subst (λ o. IsReplyOn c a n asked (s + 1) x o) (sym (before_below c range m s x (omega arith))) there;
        room = λ y hy. w.ahead s y (omega arith) hy;
        records = λ x hx. w.left.records s x (omega arith) hx;
      }
      (λ t y ht hy. w.ahead t y ht hy)
      w.left

  -- ---- the other phases
  module _ (s : ℕ) (m : Machine) (w : IsReturned c a n asked s m) where
    pub returned_acted : IsReturned c a n asked s (memory_phase c m)
    unfolding memory_phase
    returned_acted = record { calm = calm_acted c range a m w.calm; left = record { records = w.left.records }; here = w.here; ahead = w.ahead }

    pub returned_moved : s ≤ c.stages → IsReturned c a n asked s (request_phase c m)
    unfolding request_phase
    returned_moved hs = record { calm = calm_moved c range a m w.calm; left = left_moved c range a m w.calm n asked s hs w.left; here = w.here; ahead = w.ahead }

    pub returned_processed : (program : List Instr) → IsReturned c a n asked s (processor_phase c program m)
    unfolding processor_phase
    returned_processed program = record { calm = calm_processed c range a m w.calm program; left = record { records = w.left.records }; here = w.here; ahead = w.ahead }

  module _ (m : Machine) (w : IsServed c a n asked m) where
    pub served_moved : IsServed c a n asked (request_phase c m)
    served_moved = record {
      calm = calm_moved c range a m w.calm;
      left = left_moved c range a m w.calm n asked c.stages (omega arith) w.left;
      outputs = λ k hk.
          let same = ap (λ (b : ModuleState). b.out) (memory_module-request_phase c m k hk) ∙ same_output c (module_at m k) (entering c m k) in
          subst (λ o. IsReplyOn c a n asked c.stages k o) (sym same) (w.outputs k hk);
      replies = λ t y ht hy. replies-request_phase c m t y ∙ w.replies t y ht hy;
    }

    pub served_processed : (program : List Instr) → IsServed c a n asked (processor_phase c program m)
    unfolding processor_phase
    served_processed program = record { calm = calm_processed c range a m w.calm program; left = record { records = w.left.records }; outputs = w.outputs; replies = w.replies }

  -- ---- the end
  -- each processing element is answered
  pub all_answered : (m : Machine) → IsReturned c a n asked 0 m → (p : ℕ) → p < size c → (v : Reply) × (delivered c m p ≡ Some record { pe = p; cell = a; reply = v })
  all_answered m w p hp =
      let turn = turns_back c range p hp in
      let y = shuffled c.stages p in
      let here : IsReplyOn c a n asked 0 p (slice_get (replies_at m 0 y) 0) = subst (λ z. IsReplyOn c a n asked 0 z (slice_get (replies_at m 0 y) 0)) turn.back (w.here y turn.entry_small) in
      let one = here.on (leads_first c range a n asked each some_waits p) in
      let own : (fronts c n asked 0 p).pe ≡ p = ap (λ (r : Request). r.pe) (front_first c range a n asked p) ∙ each.own p hp in
      (one.0, one.1 ∙ ap (λ q. Some record { pe = q; cell = a; reply = one.0 }) own)
