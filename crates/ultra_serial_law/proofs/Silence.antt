-- while the hot requests are on their way to memory, only requests move
use Rattle.std.proofs.Common.{◌≡◌, ℕ, ◌+◌, ◌<◌, List, [], arith, ◌∙◌}
use Rattle.std.specs.Prelude.{None}
use Rattle.ultra_msg.specs.declared.Request.{Request}
use Rattle.ultra_route.specs.Route.{shuffled}
use Rattle.ultra_isa.specs.declared.Instr.{Instr}
use Rattle.ultra_model.specs.Machine.{Settings, Machine, size, last_stage, lane_at, replies_at, element_at}
use Rattle.ultra_model.specs.{Phases.{reply_before, reply_phase, memory_phase, processor_phase}, Ranges.AreInRange}
use Rattle.ultra_model.proofs.Routes.{turns_back}
use Rattle.ultra_serial_law.proofs.Quiet.{none_before, lane_unsplit, no_replies, element_stays, memory_module_stays, idle_stays}
use Rattle.ultra_serial_law.proofs.{Calm.{clear_replied, away_processed}, Stages.{IsSilent, IsSet, IsAtStage}}

module _ (c : Settings) (range : AreInRange c) (m : Machine) where
  module _ (w : IsSilent c m) where
    nothing_comes : (s x : ℕ) → s < c.stages → x < size c → reply_before c m s x ≡ None
    nothing_comes s x hs hx = none_before c range m s x hs hx (λ h. w.replies (s + 1) (shuffled c.stages x) h (turns_back c range x hx).entry_small) (λ h. (w.modules x hx).no_reply)

    pub lane_is : (t x : ℕ) → t < c.stages → x < size c → lane_at (reply_phase c m) t x ≡ lane_at m t x
    lane_is t x ht hx = lane_unsplit c range m t x ht hx (nothing_comes t x ht hx)

    none_first : (y : ℕ) → y < size c → replies_at m 0 y ≡ []
    none_first y hy = let some = range.some_stages in w.replies 0 y (omega arith) hy

    pub element_is : (p : ℕ) → p < size c → element_at (reply_phase c m) p ≡ element_at m p
    element_is p hp = element_stays c range m p hp (none_first (shuffled c.stages p) (turns_back c range p hp).entry_small)

    pub silent_replied : IsSilent c (reply_phase c m)
    silent_replied =
        let some = range.some_stages in
        record {
          replies = λ t y ht hy. no_replies c range m t y ht hy (w.replies t y ht hy) (λ x hx. nothing_comes t x ht hx);
          modules = λ k hk. rw (memory_module_stays c range m k hk (nothing_comes (last_stage c) k (omega arith) hk)) (w.modules k hk);
        }

    pub silent_acted : IsSilent c (memory_phase c m)
    unfolding memory_phase
    silent_acted = record { replies = w.replies; modules = λ k hk. rw (idle_stays c range m k hk (w.modules k hk)) (w.modules k hk) }

  module _ (a n : ℕ) (asked : ℕ → Request) where
    -- ---- before it sets out
    module _ (w : IsSet c a n asked m) where
      pub set_replied : IsSet c a n asked (reply_phase c m)
      set_replied = record {
        lanes = λ t x ht hx. lane_is w.silent t x ht hx ∙ w.lanes t x ht hx;
        silent = silent_replied w.silent;
        pending = λ p hp. rw (element_is w.silent p hp) (w.pending p hp);
        opened = λ p hp. rw (element_is w.silent p hp) (w.opened p hp);
      }

      pub set_acted : IsSet c a n asked (memory_phase c m)
      unfolding memory_phase
      set_acted = record { lanes = w.lanes; silent = silent_acted w.silent; pending = w.pending; opened = w.opened }

    -- ---- at a stage
    module _ (s : ℕ) (hs : s < c.stages) (w : IsAtStage c a n asked s m) where
      pub stage_replied : IsAtStage c a n asked s (reply_phase c m)
      stage_replied = record {
        clear = clear_replied c range a m s (omega arith) w.clear (none_first w.silent);
        left = record { records = λ t x ht hx. rw (lane_is w.silent t x (omega arith) hx) (w.left.records t x ht hx) };
        here = λ x hx. lane_is w.silent s x hs hx ∙ w.here x hx;
        ahead = λ t x h ht hx. lane_is w.silent t x ht hx ∙ w.ahead t x h ht hx;
        silent = silent_replied w.silent;
      }

      pub stage_acted : IsAtStage c a n asked s (memory_phase c m)
      unfolding memory_phase
      stage_acted = record {
        clear = record { queues = w.clear.queues; interfaces = w.clear.interfaces };
        left = record { records = w.left.records };
        here = w.here;
        ahead = w.ahead;
        silent = silent_acted w.silent;
      }

      pub stage_processed : (program : List Instr) → IsAtStage c a n asked s (processor_phase c program m)
      unfolding processor_phase
      stage_processed program = record {
        clear = record { queues = w.clear.queues; interfaces = away_processed c a program m w.clear.interfaces };
        left = record { records = w.left.records };
        here = w.here;
        ahead = w.ahead;
        silent = record { replies = w.silent.replies; modules = w.silent.modules };
      }
