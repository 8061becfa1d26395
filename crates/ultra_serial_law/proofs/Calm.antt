-- while the hot answers are on their way, there is no other request for the cell anywhere
use Rattle.std.proofs.Common.{◌≡◌, ◌≢◌, ℕ, ◌<◌, ◌≤◌, List, [], refl, arith}
use Rattle.std.specs.Prelude.{Option, Some, None, IfSome, slice_get}
use Rattle.ultra_msg.specs.declared.{Request.Request, ReplyMessage.ReplyMessage}
use Rattle.ultra_route.specs.Route.{shuffled}
use Rattle.ultra_switch.specs.{declared.QueueEntry.QueueEntry, Queues.request_of}
use Rattle.ultra_mem.specs.{declared.Placed.Placed, Serve.{ModuleState, after_serving}}
use Rattle.ultra_isa.specs.declared.Instr.{Instr}
use Rattle.ultra_isa.proofs.Steps.{step_is}
use Rattle.ultra_model.specs.Machine.{Settings, Machine, size, site, last_stage, lane_at, replies_at, module_at, element_at}
use Rattle.ultra_model.specs.Phases.{reply_phase, memory_phase, request_phase, processor_phase, entering, with_request, step_at}
use Rattle.ultra_model.specs.Ranges.{AreInRange}
use Rattle.ultra_model.proofs.{Each.each-first, OnRoute.some-request, Routes.turns_back, AtPlaces.{memory_module-memory_phase, memory_module-request_phase, element-processor_phase}}
use Rattle.ultra_serial_law.proofs.{Others.{IsAway, away_after}, Quiet.{same_queue, element_stays, input_stays}, Behind.{clear_requested, left_requested}, Stages.{IsCalm, IsClear, HasLeft}}

-- what a module has to serve is for another cell
abbrev pub ServesOther : ℕ → ModuleState → Type 0
ServesOther a b = IfSome b.inp (λ (p : Placed). p.request.cell ≢ a)

serve_other : (a : ℕ) (b : ModuleState) (i : Option Placed) (o : Option ReplyMessage) → b.inp ≡ i → b.out ≡ o → IfSome i (λ (p : Placed). p.request.cell ≢ a) → IfSome (after_serving b (elim o [ None ↦ i | Some r ↦ None ])).inp (λ (p : Placed). p.request.cell ≢ a)
serve_other a b None None e f h = rw e tt
serve_other a b None (Some r) e f h = rw e tt
serve_other a b (Some p) None e f h = tt
serve_other a b (Some p) (Some r) e f h = rw e h

pub away_processed : (c : Settings) (a : ℕ) (program : List Instr) (m : Machine) → ((p : ℕ) → p < size c → IsAway a (element_at m p).interface) → (p : ℕ) → p < size c → IsAway a (element_at (processor_phase c program m) p).interface
away_processed c a program m h p hp =
    rw (element-processor_phase c program m p hp)
    (away_after a (site c p) c.most_open (element_at m p).interface (step_at c program m p).interface (step_at c program m p).sent (step_is (site c p) c.most_open (element_at m p).interface program (element_at m p).core).into (h p hp))

module _ (c : Settings) (range : AreInRange c) (a : ℕ) (m : Machine) where
  pub clear_replied : (b : ℕ) → b ≤ c.stages → IsClear c a b m → ((y : ℕ) → y < size c → replies_at m 0 y ≡ []) → IsClear c a b (reply_phase c m)
  clear_replied b within w none = record {
    queues = λ t x ht hx. rw (same_queue c range m t x (omega arith) hx) (w.queues t x ht hx);
    interfaces = λ p hp. rw (element_stays c range m p hp (none (shuffled c.stages p) (turns_back c range p hp).entry_small)) (w.interfaces p hp);
  }

  module _ (w : IsCalm c a m) where
    pub calm_replied : ((y : ℕ) → y < size c → replies_at m 0 y ≡ []) → IsCalm c a (reply_phase c m)
    calm_replied none = record {
      clear = clear_replied c.stages (omega arith) w.clear none;
      inputs = λ k hk. rw (input_stays c range m k hk) (w.inputs k hk);
    }

    pub calm_acted : IsCalm c a (memory_phase c m)
    unfolding memory_phase
    calm_acted = record {
      clear = record { queues = w.clear.queues; interfaces = w.clear.interfaces };
      inputs = λ k hk. rw (memory_module-memory_phase c m k hk) (serve_other a (module_at m k) (module_at m k).inp (module_at m k).out refl refl (w.inputs k hk));
    }

    entering_other : (k : ℕ) → k < size c → IfSome (entering c m k) (λ (r : Request). r.cell ≢ a)
    entering_other k hk =
        let some = range.some_stages in
        let q = (lane_at m (last_stage c) k).queue in
        let head = some-request (λ (r : Request). r.cell ≢ a) (slice_get q 0) (each-first (λ (e : QueueEntry). e.request.cell ≢ a) q (w.clear.queues (last_stage c) k (omega arith) hk)) in
        enters_if (module_at m k).inp (request_of (slice_get q 0)) head
      where
        enters_if : (i : Option Placed) (o : Option Request) → IfSome o (λ (r : Request). r.cell ≢ a) → IfSome (elim i as (λ j. Option Request) [ None ↦ o | Some r ↦ None ]) (λ (r : Request). r.cell ≢ a)
        enters_if None o h = h
        enters_if (Some p) o h = tt

    with_other : (b : ModuleState) (o : Option Request) → ServesOther a b → IfSome o (λ (r : Request). r.cell ≢ a) → ServesOther a (with_request c b o)
    with_other b None h g = h
    with_other b (Some r) h g = g

    pub calm_moved : IsCalm c a (request_phase c m)
    calm_moved = record {
      clear = clear_requested c range a c.stages (omega arith) m w.clear c.stages (omega arith) (omega arith) (λ x h hx. absurd (omega (arith, h)));
      inputs = λ k hk. rw (memory_module-request_phase c m k hk) (with_other (module_at m k) (entering c m k) (w.inputs k hk) (entering_other k hk));
    }

    pub left_moved : (n : ℕ) (asked : ℕ → Request) (e : ℕ) → e ≤ c.stages → HasLeft c a n asked e m → HasLeft c a n asked e (request_phase c m)
    left_moved n asked e within h = left_requested c range a c.stages (omega arith) m w.clear n asked e (omega arith) within (λ x l hx. absurd (omega (arith, l, within))) h

    pub calm_processed : (program : List Instr) → IsCalm c a (processor_phase c program m)
    unfolding processor_phase
    calm_processed program = record {
      clear = record { queues = w.clear.queues; interfaces = away_processed c a program m w.clear.interfaces };
      inputs = w.inputs;
    }
