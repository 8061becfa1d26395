-- no more trees are kept than requests are on their way to memory
use Rattle.std.proofs.Common.{◌≡◌, ℕ, ◌+◌, ◌≤◌, List, [], ◌∷◌, Bool, refl, arith, ◌∙◌, ap}
use Rattle.std.specs.Prelude.{Option, Some, None, IfSome, ◌==◌, not}
use Rattle.std.specs.List.{AllByRecursion}
use Rattle.std.proofs.lemmas.Bool.{eqb-true}
use Rattle.ultra_msg.specs.declared.{Request.Request, ReplyMessage.ReplyMessage, Event.Event}
use Rattle.ultra_switch.specs.declared.QueueEntry.{QueueEntry}
use Rattle.ultra_switch.specs.Arrive.{Lane, Combination, wait_record, combine_within, after_arrival, arrive}
use Rattle.ultra_mem.specs.{declared.{Placed.Placed, Served.Served as Act}, Serve.{ModuleState, served}}
use Rattle.ultra_pni.specs.Interface.{Interface}
use Rattle.ultra_isa.specs.declared.Instr.{Instr}
use Rattle.ultra_isa.proofs.Steps.{SendsInto}
use Rattle.ultra_model.specs.{Places.{places, present}, Ranges.AreInRange}
use Rattle.ultra_model.specs.Machine.{Settings, Machine, Element, size, site, last_stage, lane_at, replies_at, module_at, element_at, start}
use Rattle.ultra_model.specs.Phases.{arrive_all, deliver, delivered, without_reply, with_request, arriving_reply, entering, serving, combination, combinations, lane_after_leaving, arrivals, issue_event, step_at, reply_phase, memory_phase, request_phase, processor_phase}
use Rattle.ultra_model.specs.Balance.{weight, count, count_option, total, passes, reply_passes, entry_passes, record_passes, replies_on_way, pending_on_way, on_way}
use Rattle.ultra_model.proofs.{Each.{each-places, each-present}, Sums.{total_same, total_plus, total_zero, table_same, table_plus}, Counting.{count-append, both_true}, RequestBalance.on_way-request_phase, Balanced.sends}
use Rattle.ultra_model.proofs.AtPlaces.{lane-start, memory_module-start, element-start, lane-reply_phase, memory_module-reply_phase, element-reply_phase, lane-request_phase, memory_module-request_phase, element-processor_phase}
use Rattle.ultra_serial_law.specs.{Tree.Kept, Legal.given, SerialList.History, Explicable.AreAbsorbable}
use Rattle.ultra_serial_law.proofs.Mentions.{mention, mentions, sum_of, sum-places, sum-append, sum-table, trees_noted}
use Rattle.ultra_serial_law.proofs.{LaneForest.{Combines, within_each}, MemoryForest.all_taken, Absorbing.{kept_passing, lost, brought, event_kept}, Law.{IsSerial, list_of, servings, meetings, issues_of}}

module _ (t : ℕ → ℕ → Bool) where
  abbrev pub all_lost : List Event → ℕ
  all_lost es = sum_of (lost t) es

  abbrev pub all_brought : List Event → ℕ
  all_brought es = sum_of (brought t) es

  pub events_kept : (n m : ℕ) (es : List Event) (ks : List Kept) → AreAbsorbable n m ks es → kept_passing t (trees_noted es ks) + all_lost es ≡ kept_passing t ks + all_brought es
  events_kept n m [] ks h = refl
  events_kept n m (e ∷ es) ks h =
      let one = event_kept t n m ks e h.0 in
      let rest = events_kept n m es _ h.1 in
      omega (arith, one, rest)

  pub same_sum : (f g : Event → ℕ) (es : List Event) → AllByRecursion (λ e. f e ≡ g e) es → sum_of f es ≡ sum_of g es
  same_sum f g [] h = refl
  same_sum f g (e ∷ es) h = omega (arith, h.0, same_sum f g es h.1)

  -- ---- the requests on their way to memory, and what else is on its way
  abbrev pub queued_in : Lane → ℕ
  queued_in l = count (entry_passes t) l.queue

  abbrev pub input_in : ModuleState → ℕ
  input_in v = count_option (λ (p : Placed). t p.request.pe p.request.cell) v.inp

  abbrev partners_in : Lane → ℕ
  partners_in l = count (record_passes t) l.records

  abbrev output_in : ModuleState → ℕ
  output_in v = count_option (reply_passes t) v.out

  module _ (c : Settings) where
    abbrev pub requests_of : Machine → ℕ
    requests_of m = total c.stages (λ s. total (size c) (λ x. queued_in (lane_at m s x))) + total (size c) (λ k. input_in (module_at m k)) + total (size c) (λ p. pending_on_way t (element_at m p))

    abbrev rest_of : Machine → ℕ
    rest_of m = total c.stages (λ s. total (size c) (λ x. partners_in (lane_at m s x))) + total c.stages (λ s. total (size c) (λ y. replies_on_way t (replies_at m s y))) + total (size c) (λ k. output_in (module_at m k))

    way_parts : (m : Machine) → on_way t c m ≡ requests_of m + rest_of m
    way_parts m =
        let lanes = table_plus c.stages (size c) (λ s x. queued_in (lane_at m s x)) (λ s x. partners_in (lane_at m s x)) in
        let modules = total_plus (size c) (λ k. input_in (module_at m k)) (λ k. output_in (module_at m k)) in
        omega (arith, lanes, modules)

    pub requests_within : (m : Machine) → requests_of m ≤ on_way t c m
    requests_within m = omega (arith, way_parts m)

    -- ---- at first
    pub no_requests : requests_of (start c) ≡ 0
    no_requests =
        let lanes : total c.stages (λ s. total (size c) (λ x. queued_in (lane_at (start c) s x))) ≡ 0 =
        total_zero c.stages (λ s. total (size c) (λ x. queued_in (lane_at (start c) s x))) (λ s hs. total_zero (size c) (λ x. queued_in (lane_at (start c) s x)) (λ x hx. rw (lane-start c s x hs hx) refl)) in
        let modules : total (size c) (λ k. input_in (module_at (start c) k)) ≡ 0 = total_zero (size c) (λ k. input_in (module_at (start c) k)) (λ k h. rw (memory_module-start c k h) refl) in
        let pending : total (size c) (λ p. pending_on_way t (element_at (start c) p)) ≡ 0 = total_zero (size c) (λ p. pending_on_way t (element_at (start c) p)) (λ p h. rw (element-start c p h) refl) in
        omega (arith, lanes, modules, pending)

    -- ---- replies
    same_input : (v : ModuleState) (o : Option ReplyMessage) → input_in (without_reply v o) ≡ input_in v
    same_input v None = refl
    same_input v (Some r) = refl

    same_pending : (e : Element) (o : Option ReplyMessage) → pending_on_way t (deliver e o) ≡ pending_on_way t e
    same_pending e None = refl
    same_pending e (Some r) = refl

    pub requests_replied : (m : Machine) → requests_of (reply_phase c m) ≡ requests_of m
    requests_replied m =
        let lanes = table_same c.stages (size c) (λ s x. queued_in (lane_at (reply_phase c m) s x)) (λ s x. queued_in (lane_at m s x)) (λ s x hs hx. rw (lane-reply_phase c m s x hs hx) refl) in
        let modules = total_same (size c) (λ k. input_in (module_at (reply_phase c m) k)) (λ k. input_in (module_at m k)) (λ k h. rw (memory_module-reply_phase c m k h) (same_input (module_at m k) (arriving_reply c m (last_stage c) k))) in
        let pending = total_same (size c) (λ p. pending_on_way t (element_at (reply_phase c m) p)) (λ p. pending_on_way t (element_at m p)) (λ p h. rw (element-reply_phase c m p h) (same_pending (element_at m p) (delivered c m p))) in
        omega (arith, lanes, modules, pending)

    -- ---- memory
    served_lost : (k : ℕ) (o : Option Act) → IfSome (serving k o) (λ e. lost t e ≡ mention t e)
    served_lost k None = tt
    served_lost k (Some a) = refl

    module _ (range : AreInRange c) (program : List Instr) (n : ℕ) (m : Machine) (h : History) (w : IsSerial c n m h) where
      abbrev acts : List Event
      acts = servings c range program n m

      acts_lost : all_lost acts ≡ mentions t acts
      acts_lost =
          same_sum (lost t) (λ e. mention t e) acts
          (each-present (λ e. lost t e ≡ mention t e) (places (size c) (λ k. serving k (served (module_at m k))))
          (each-places (λ o. IfSome o (λ e. lost t e ≡ mention t e)) (size c) (λ k. serving k (served (module_at m k))) (λ k hk. served_lost k (served (module_at m k)))))

      requests_taken : requests_of (memory_phase c m) + mentions t acts ≡ requests_of m
      unfolding memory_phase
      requests_taken =
          let taken = all_taken c range m w.sound.shape w.sound.routes w.sound.balance h.log.issues h.trees (given c.initial) h (list_of c h) w.forest t in
          omega (arith, taken)

      pub requests_served : requests_of (memory_phase c m) + all_lost acts ≡ requests_of m
      requests_served = omega (arith, requests_taken, acts_lost)

      -- ---- requests
      abbrev meets : List Event
      meets = meetings c range program n m

      no_condition : (es : List QueueEntry) → AllByRecursion (λ (e : QueueEntry). Unit {0}) es
      no_condition [] = tt
      no_condition (e ∷ es) = (tt, no_condition es)

      arrival_lost : (s x : ℕ) (l : Lane) (r : Request) (o : Option Combination) → Combines (λ e. Unit {0}) (λ e. Unit {0}) r o → partners_in (after_arrival l r o) ≡ partners_in l + all_lost (combination s x r o)
      arrival_lost s x l r None g = omega arith
      arrival_lost s x l r (Some v) g =
          let parts = both_true (not v.old.combined) (v.old.request.cell == r.cell) g.1 in
          let same : weight (t r.pe v.old.request.cell) ≡ weight (t r.pe r.cell) = ap (λ a. weight (t r.pe a)) (eqb-true v.old.request.cell r.cell parts.1) in
          omega (arith, same, count-append (record_passes t) l.records (wait_record v.old r ∷ []))

      lane_lost : (s x : ℕ) (l : Lane) (rs : List Request) → partners_in (arrive_all c.wait_places l rs) ≡ partners_in l + all_lost (combinations c.wait_places s x l rs)
      lane_lost s x l [] = omega arith
      lane_lost s x l (r ∷ rs) =
          let o = combine_within c.wait_places l r in
          let one = arrival_lost s x l r o (within_each (λ e. Unit {0}) (λ e. Unit {0}) c.wait_places l r (λ e z. z) (no_condition l.queue)) in
          let rest = lane_lost s x (arrive c.wait_places l r) rs in
          let sum = sum-append (lost t) (combination s x r o) (combinations c.wait_places s x (arrive c.wait_places l r) rs) in
          omega (arith, one, rest, sum)

      abbrev met_at : ℕ → ℕ → List Event
      met_at s x = combinations c.wait_places s x (lane_after_leaving c m s x) (arrivals c m s x)

      same_output : (v : ModuleState) (o : Option Request) → output_in (with_request c v o) ≡ output_in v
      same_output v None = refl
      same_output v (Some r) = refl

      same_replies : total c.stages (λ s. total (size c) (λ y. replies_on_way t (replies_at (request_phase c m) s y))) ≡ total c.stages (λ s. total (size c) (λ y. replies_on_way t (replies_at m s y)))
      unfolding request_phase
      same_replies = refl

      pub requests_combined : requests_of (request_phase c m) + all_lost meets ≡ requests_of m
      requests_combined =
          let each = table_same c.stages (size c) (λ s x. partners_in (lane_at (request_phase c m) s x)) (λ s x. partners_in (lane_at m s x) + all_lost (met_at s x))
          (λ s x hs hx. rw (lane-request_phase c m s x hs hx) (lane_lost s x (lane_after_leaving c m s x) (arrivals c m s x))) in
          let both = table_plus c.stages (size c) (λ s x. partners_in (lane_at m s x)) (λ s x. all_lost (met_at s x)) in
          let sum = sum-table (lost t) c.stages (size c) met_at in
          let modules = total_same (size c) (λ k. output_in (module_at (request_phase c m) k)) (λ k. output_in (module_at m k)) (λ k hk. rw (memory_module-request_phase c m k hk) (same_output (module_at m k) (entering c m k))) in
          omega (arith, way_parts m, way_parts (request_phase c m), on_way-request_phase c range m t, each, both, sum, modules, same_replies)

      -- ---- processors
      abbrev issues : List Event
      issues = issues_of c range program n m

      brought_some : Option Event → ℕ
      brought_some None = 0
      brought_some (Some e) = brought t e

      present_brought : (os : List (Option Event)) → all_brought (present os) ≡ sum_of brought_some os
      unfolding brought_some
      present_brought [] = refl
      present_brought (None ∷ os) = omega (arith, present_brought os)
      present_brought (Some e ∷ os) = omega (arith, present_brought os)

      sent_pending : (p : ℕ) (e : Element) (i j : Interface) (o : Option Request) → SendsInto (site c p) c.most_open i j o → count (passes t) j.pending ≡ count (passes t) i.pending + brought_some (issue_event e o)
      unfolding brought_some
      sent_pending p e i j None g = rw g (omega arith)
      sent_pending p e i j (Some r) g = rw g.4.1 (omega (arith, count-append (passes t) i.pending (r ∷ [])))

      requests_sent : (pending : total (size c) (λ p. pending_on_way t (element_at (processor_phase c program m) p)) ≡ total (size c) (λ p. pending_on_way t (element_at m p)) + all_brought issues) → requests_of (processor_phase c program m) ≡ requests_of m + all_brought issues
      unfolding processor_phase
      requests_sent pending = omega (arith, pending)

      pub requests_issued : requests_of (processor_phase c program m) ≡ requests_of m + all_brought issues
      requests_issued =
          let each = total_same (size c) (λ p. pending_on_way t (element_at (processor_phase c program m) p)) (λ p. pending_on_way t (element_at m p) + brought_some (issue_event (element_at m p) (step_at c program m p).sent))
          (λ p hp. rw (element-processor_phase c program m p hp) (sent_pending p (element_at m p) (element_at m p).interface (step_at c program m p).interface (step_at c program m p).sent (sends c program m p))) in
          let both = total_plus (size c) (λ p. pending_on_way t (element_at m p)) (λ p. brought_some (issue_event (element_at m p) (step_at c program m p).sent)) in
          let sum = present_brought (places (size c) (λ p. issue_event (element_at m p) (step_at c program m p).sent)) ∙ sum-places brought_some (size c) (λ p. issue_event (element_at m p) (step_at c program m p).sent) in
          requests_sent (omega (arith, each, both, sum))
