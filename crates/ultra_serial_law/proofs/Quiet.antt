-- what the phases leave as it is: where no reply comes to a stage, where a module is idle, where no
-- request is before a stage
use Rattle.std.proofs.Common.{◌≡◌, ℕ, ◌+◌, ◌-◌, ◌*◌, ◌/◌, ◌%◌, ◌<◌, List, [], ◌++◌, Bool, true, false, refl, arith, ◌∙◌, ap}
use Rattle.std.specs.Prelude.{Option, Some, None, slice_get, ◌==◌}
use Rattle.std.proofs.lemmas.Bool.{eqb-true, Decides.nat_tests}
use Rattle.ultra_msg.specs.declared.{Request.Request, ReplyMessage.ReplyMessage}
use Rattle.ultra_route.specs.Route.{shuffled, unshuffled}
use Rattle.ultra_switch.specs.{Arrive.{Lane, empty_lane}, Queues.request_of, declared.QueueEntry.QueueEntry}
use Rattle.ultra_mem.specs.{Serve.{ModuleState, IsIdle, serve}, declared.Placed.Placed}
use Rattle.ultra_model.specs.{Places.after_leaving, Ranges.AreInRange}
use Rattle.ultra_model.specs.Machine.{Settings, Machine, size, last_stage, lane_at, replies_at, module_at, element_at}
use Rattle.ultra_model.specs.Phases.{deliver, without_reply, records_left, reply_before, has_reply_room, arriving_reply, leaving_reply, replies_at_exit, delivered, reply_phase, memory_phase, request_before, arriving_request, arrivals_by, arrivals, leaving_request, entering, with_request, request_phase}
use Rattle.ultra_model.proofs.{Each.if_tested, Neighbours.other, Routes.two_ports}
use Rattle.ultra_model.proofs.AtPlaces.{lane-reply_phase, replies-reply_phase, memory_module-reply_phase, element-reply_phase, memory_module-memory_phase, lane-request_phase, memory_module-request_phase}

pub none_left : {X Y : Type 0} (o : Option Y) → ◌≡◌ {A = List X} (after_leaving o []) []
none_left None = refl
none_left (Some x) = refl

-- the request at the head of a queue
abbrev pub head_of : List QueueEntry → Option Request
head_of q = request_of (slice_get q 0)

module _ (c : Settings) (range : AreInRange c) (m : Machine) where
  -- ---- replies
  either_none : (b : Bool) (o : Option ReplyMessage) → o ≡ None → ◌≡◌ {A = Option ReplyMessage} (elim b [ true ↦ o | false ↦ None ]) None
  either_none true o h = h
  either_none false o h = refl

  none_arrives : (s x : ℕ) → reply_before c m s x ≡ None → arriving_reply c m s x ≡ None
  unfolding arriving_reply
  none_arrives s x h = either_none (has_reply_room c m s (x / 2)) (reply_before c m s x) h

  pub lane_unsplit : (s x : ℕ) → s < c.stages → x < size c → reply_before c m s x ≡ None → lane_at (reply_phase c m) s x ≡ lane_at m s x
  lane_unsplit s x hs hx h =
      lane-reply_phase c m s x hs hx ∙ ap (λ (o : Option ReplyMessage). record { queue = (lane_at m s x).queue; records = records_left (lane_at m s x).records o }) (none_arrives s x h)

  pub same_queue : (s x : ℕ) → s < c.stages → x < size c → (lane_at (reply_phase c m) s x).queue ≡ (lane_at m s x).queue
  same_queue s x hs hx = ap (λ (l : Lane). l.queue) (lane-reply_phase c m s x hs hx)

  pub none_goes_by : (s x y : ℕ) → reply_before c m s x ≡ None → replies_at_exit c m s x y ≡ []
  none_goes_by s x y h = rw (none_arrives s x h) refl

  pub no_replies : (s y : ℕ) → s < c.stages → y < size c → replies_at m s y ≡ [] → ((x : ℕ) → x < size c → reply_before c m s x ≡ None) → replies_at (reply_phase c m) s y ≡ []
  no_replies s y hs hy e h =
      let ports = two_ports c range y hy in
      replies-reply_phase c m s y hs hy
      ∙ (ap (λ rs. (after_leaving (leaving_reply c m s y) rs ++ replies_at_exit c m s (2 * (y / 2)) y) ++ replies_at_exit c m s (2 * (y / 2) + 1) y) e
      ∙ rw (none_left {X = ReplyMessage} (leaving_reply c m s y), none_goes_by s (2 * (y / 2)) y (h (2 * (y / 2)) ports.0), none_goes_by s (2 * (y / 2) + 1) y (h (2 * (y / 2) + 1) ports.1)) refl)

  nothing_delivered : (p : ℕ) → replies_at m 0 (shuffled c.stages p) ≡ [] → delivered c m p ≡ None
  nothing_delivered p h = ap (λ (rs : List ReplyMessage). slice_get rs 0) h

  pub element_stays : (p : ℕ) → p < size c → replies_at m 0 (shuffled c.stages p) ≡ [] → element_at (reply_phase c m) p ≡ element_at m p
  element_stays p hp h = element-reply_phase c m p hp ∙ ap (λ o. deliver (element_at m p) o) (nothing_delivered p h)

  same_input : (b : ModuleState) (o : Option ReplyMessage) → (without_reply b o).inp ≡ b.inp
  same_input b None = refl
  same_input b (Some r) = refl

  pub input_stays : (k : ℕ) → k < size c → (module_at (reply_phase c m) k).inp ≡ (module_at m k).inp
  input_stays k hk = ap (λ (b : ModuleState). b.inp) (memory_module-reply_phase c m k hk) ∙ same_input (module_at m k) (arriving_reply c m (last_stage c) k)

  pub memory_module_stays : (k : ℕ) → k < size c → reply_before c m (last_stage c) k ≡ None → module_at (reply_phase c m) k ≡ module_at m k
  memory_module_stays k hk h = memory_module-reply_phase c m k hk ∙ ap (λ o. without_reply (module_at m k) o) (none_arrives (last_stage c) k h)

  -- where the stage behind is empty, and at the last stage the module
  not_last : (s : ℕ) → s < c.stages → (s == last_stage c) ≡ false → s < last_stage c
  not_last s h e = let some = range.some_stages in grind (arith, nat_tests)

  pub none_before : (s x : ℕ) → s < c.stages → x < size c → (s + 1 < c.stages → replies_at m (s + 1) (shuffled c.stages x) ≡ []) → (s ≡ last_stage c → (module_at m x).out ≡ None) → reply_before c m s x ≡ None
  none_before s x hs hx h g =
      if_tested (s == last_stage c) (λ o. o ≡ None) (module_at m x).out (slice_get (replies_at m (s + 1) (shuffled c.stages x)) 0)
      (λ e. g (eqb-true s (last_stage c) e))
      (λ e. let less = not_last s hs e in let some = range.some_stages in ap (λ (rs : List ReplyMessage). slice_get rs 0) (h (omega arith)))

  -- ---- memory
  idle_serves : (b : ModuleState) → IsIdle b → serve b ≡ b
  idle_serves b i = rw (i.no_reply, i.no_request) refl

  pub idle_stays : (k : ℕ) → k < size c → IsIdle (module_at m k) → module_at (memory_phase c m) k ≡ module_at m k
  idle_stays k hk i = memory_module-memory_phase c m k hk ∙ idle_serves (module_at m k) i

  -- ---- requests
  pub before_at : (s y : ℕ) → request_before c m (s + 1) y ≡ head_of (lane_at m s (unshuffled c.stages y)).queue
  before_at s y =
      let x = unshuffled c.stages y in
      let f : Bool → Option Request = λ b. elim b [ true ↦ slice_get (element_at m x).interface.pending 0 | false ↦ head_of (lane_at m (s + 1 - 1) x).queue ] in
      let less : s + 1 - 1 ≡ s = omega arith in
      ap f (other (s + 1) 0 (λ e. omega (arith, e))) ∙ ap (λ n. head_of (lane_at m n x).queue) less

  none_by : (s y x : ℕ) → request_before c m s y ≡ None → arrivals_by c m s y x ≡ []
  unfolding arriving_request
  none_by s y x h = rw h refl

  both_none : (b : Bool) (xs ys : List Request) → xs ≡ [] → ys ≡ [] → ◌≡◌ {A = List Request} (elim b [ true ↦ xs ++ ys | false ↦ ys ++ xs ]) []
  both_none true xs ys h g = rw (h, g) refl
  both_none false xs ys h g = rw (h, g) refl

  no_arrivals : (s x : ℕ) → x < size c → ((y : ℕ) → y < size c → request_before c m s y ≡ None) → arrivals c m s x ≡ []
  no_arrivals s x hx h =
      let ports = two_ports c range x hx in
      both_none (m.cycles % 2 == 0) (arrivals_by c m s (2 * (x / 2)) x) (arrivals_by c m s (2 * (x / 2) + 1) x)
      (none_by s (2 * (x / 2)) x (h (2 * (x / 2)) ports.0)) (none_by s (2 * (x / 2) + 1) x (h (2 * (x / 2) + 1) ports.1))

  unleft : (l : Lane) (o : Option Request) → l ≡ empty_lane → ◌≡◌ {A = Lane} (record { queue = after_leaving o l.queue; records = l.records }) empty_lane
  unleft l o e = rw (e, none_left {X = QueueEntry} o) refl

  pub stays_empty : (s x : ℕ) → s < c.stages → x < size c → lane_at m s x ≡ empty_lane → ((y : ℕ) → y < size c → request_before c m s y ≡ None) → lane_at (request_phase c m) s x ≡ empty_lane
  stays_empty s x hs hx e h =
      lane-request_phase c m s x hs hx
      ∙ rw (no_arrivals s x hx h) (unleft (lane_at m s x) (leaving_request c m s x) e)

  pub entering_is : (k : ℕ) → (module_at m k).inp ≡ None → entering c m k ≡ head_of (lane_at m (last_stage c) k).queue
  entering_is k h =
      let o = head_of (lane_at m (last_stage c) k).queue in
      let f : Option Placed → Option Request = λ i. elim i [ None ↦ o | Some r ↦ None ] in
      ap f h

  pub none_enters : (k : ℕ) → k < size c → (module_at m k).inp ≡ None → head_of (lane_at m (last_stage c) k).queue ≡ None → module_at (request_phase c m) k ≡ module_at m k
  none_enters k hk h e = memory_module-request_phase c m k hk ∙ ap (λ o. with_request c (module_at m k) o) (entering_is k h ∙ e)
