-- what leaves the queues of a machine in its next cycle, by its state before the cycle
use Rattle.std.proofs.Common.{ℕ, zero, suc, [], ◌∷◌, not, ◌≡◌, ◌+◌, ◌-◌, ◌/◌, ◌<◌, Bool, true, false, ◌||◌, refl, sym, ap, ◌∙◌, arith, ◌⊎◌, inl, inr}
use Rattle.std.specs.Prelude.{Option, Some, None, List, is_some, option_map, slice_get, length, nat_le, ◌==◌}
use Rattle.std.proofs.lemmas.Bool.Decides.{nat_tests}
use Rattle.ultra_msg.specs.declared.{Request.Request, ReplyMessage.ReplyMessage}
use Rattle.ultra_route.specs.Route.{shuffled, unshuffled}
use Rattle.ultra_switch.specs.{declared.QueueEntry.QueueEntry, Queues.request_of}
use Rattle.ultra_mem.specs.{declared.Placed.Placed, Serve.{ModuleState, serve}}
use Rattle.ultra_model.specs.Machine.{Settings, Machine, size, last_stage, lane_at, replies_at, module_at, request_exit, is_nothing}
use Rattle.ultra_model.specs.Phases.{has_reply_room, has_request_room, leaving_reply, leaving_request, arriving_reply, arriving_request, request_before, admitted, without_reply, reply_phase}
use Rattle.ultra_model.specs.Ranges.{AreInRange}
use Rattle.ultra_model.proofs.AtPlaces.{lane-reply_phase, lane-memory_phase, memory_module-reply_phase, memory_module-memory_phase}
use Rattle.ultra_model.proofs.ReplyBalance.{leaving_next, before_below, before_at_last}
use Rattle.ultra_model.proofs.RequestBalance.{before_next, leaving_at_last, leaving_below, leaving_head}
use Rattle.ultra_model.proofs.Routes.{turns_back}
use Rattle.ultra_statistics.specs.Moves.{before_requests}

some_if : {X : Type 0} (b : Bool) (x : X) → is_some (elim b [ true ↦ Some x | false ↦ None ]) ≡ b
some_if true x = refl
some_if false x = refl

some_first : {X : Type 0} (b : Bool) (o : Option X) (x : X) → o ≡ Some x → is_some (elim b [ true ↦ o | false ↦ None ]) ≡ b
some_first true o x is = ap is_some is
some_first false o x is = refl

none_of : {X : Type 0} (o h : Option X) → (o ≡ h) ⊎ (o ≡ None) → h ≡ None → is_some o ≡ false
none_of o h (inl e) none = ap is_some (e ∙ none)
none_of o h (inr e) none = ap is_some e

-- ---- modules
entered : (i : Option Placed) (o : Option Request) (r : Request) → o ≡ Some r → is_some (elim i [ None ↦ o | Some p ↦ None ]) ≡ is_nothing i
entered None o r is = ap is_some is
entered (Some p) o r is = refl

either_none : (i : Option Placed) → is_nothing i ≡ (is_nothing i || false)
either_none None = refl
either_none (Some p) = refl

free_after_serving : (b : ModuleState) (i : Option Placed) (o : Option ReplyMessage) → b.inp ≡ i → b.out ≡ o → is_nothing (serve b).inp ≡ (is_nothing i || is_nothing o)
free_after_serving b i (Some r) waits leaves = rw leaves (ap is_nothing waits ∙ either_none i)
free_after_serving b None None waits leaves = rw (leaves, waits) refl
free_after_serving b (Some p) None waits leaves = rw (leaves, waits) refl

nothing_if : (o : Option Placed) (b : Bool) → is_some (option_map (λ (p : Placed). p.request) o) ≡ not b → is_nothing o ≡ b
nothing_if None true is = refl
nothing_if None false is = cc
nothing_if (Some p) true is = cc
nothing_if (Some p) false is = refl

no_reply_if : (o : Option ReplyMessage) (b : Bool) → is_some o ≡ not b → is_nothing o ≡ b
no_reply_if None true is = refl
no_reply_if None false is = cc
no_reply_if (Some p) true is = cc
no_reply_if (Some p) false is = refl

true_last : (a : Bool) → (a || true) ≡ true
true_last true = refl
true_last false = refl

-- ---- queues of replies
zero_if : (n : ℕ) → (n == 0) ≡ true → n ≡ 0
zero_if n is = grind (arith, nat_tests)

pub empty_if : (rs : List ReplyMessage) → (length rs == 0) ≡ true → rs ≡ []
empty_if [] is = refl
empty_if (r ∷ rs) is = absurd (omega (arith, zero_if (length (r ∷ rs)) is))

some_head : (rs : List ReplyMessage) → (length rs == 0) ≡ false → is_some (slice_get rs 0) ≡ true
some_head [] is = cc
some_head (r ∷ rs) is = refl

head_of : (rs : List ReplyMessage) → (length rs == 0) ≡ false → (r : ReplyMessage) × (slice_get rs 0 ≡ Some r)
head_of [] is = cc
head_of (r ∷ rs) is = (r, refl)

module _ (c : Settings) (range : AreInRange c) (m : Machine) where
  -- ---- replies
  pub first_leaves : (y : ℕ) → leaving_reply c m 0 y ≡ slice_get (replies_at m 0 y) 0
  first_leaves y = refl

  pub next_leaves : (s y : ℕ) → s + 1 < c.stages → y < size c → leaving_reply c m (s + 1) y ≡ elim (has_reply_room c m s (unshuffled c.stages y / 2)) [ true ↦ slice_get (replies_at m (s + 1) y) 0 | false ↦ None ]
  unfolding arriving_reply
  next_leaves s y hs hy =
      let x = unshuffled c.stages y in
      leaving_next c range m s y
      ∙ ap (λ (o : Option ReplyMessage). elim (has_reply_room c m s (x / 2)) [ true ↦ o | false ↦ None ]) (before_below c range m s x (omega arith) ∙ ap (λ z. slice_get (replies_at m (s + 1) z) 0) (turns_back c range y hy).forth)

  pub reply_leaves : (s y : ℕ) (r : ReplyMessage) → s + 1 < c.stages → y < size c → slice_get (replies_at m (s + 1) y) 0 ≡ Some r → is_some (leaving_reply c m (s + 1) y) ≡ has_reply_room c m s (unshuffled c.stages y / 2)
  reply_leaves s y r hs hy head = ap is_some (next_leaves s y hs hy) ∙ some_first (has_reply_room c m s (unshuffled c.stages y / 2)) _ r head

  no_head : (b : Bool) (o : Option ReplyMessage) → o ≡ None → is_some (elim b [ true ↦ o | false ↦ None ]) ≡ false
  no_head true o is = ap is_some is
  no_head false o is = refl

  pub no_reply_leaves : (s y : ℕ) → s < c.stages → y < size c → replies_at m s y ≡ [] → is_some (leaving_reply c m s y) ≡ false
  no_reply_leaves zero y hs hy none = ap is_some (first_leaves y ∙ ap (λ rs. slice_get rs 0) none)
  no_reply_leaves (suc s) y hs hy none =
      let next : suc s ≡ s + 1 = omega arith in
      let none_next : replies_at m (s + 1) y ≡ [] = ap (λ k. replies_at m k y) (sym next) ∙ none in
      ap (λ k. is_some (leaving_reply c m k y)) next ∙ ap is_some (next_leaves s y (omega (arith, hs)) hy) ∙ no_head _ _ (ap (λ rs. slice_get rs 0) none_next)

  -- from a queue with a reply
  pub reply_leaves_first : (s y : ℕ) → s ≡ 0 → (length (replies_at m s y) == 0) ≡ false → is_some (leaving_reply c m s y) ≡ true
  reply_leaves_first zero y is some = some_head (replies_at m 0 y) some
  reply_leaves_first (suc s) y is some = absurd (omega (arith, is))

  pub reply_leaves_behind : (s y u : ℕ) → (s ≡ 0 → ⊥) → s < c.stages → y < size c → (length (replies_at m s y) == 0) ≡ false → u ≡ unshuffled c.stages y → is_some (leaving_reply c m s y) ≡ has_reply_room c m (s - 1) (u / 2)
  reply_leaves_behind zero y u behind hs hy some is = absurd (behind refl)
  reply_leaves_behind (suc s) y u behind hs hy some is =
      let next : suc s ≡ s + 1 = omega arith in
      let less : s ≡ suc s - 1 = omega arith in
      let head = head_of (replies_at m (s + 1) y) (ap (λ k. length (replies_at m k y) == 0) (sym next) ∙ some) in
      ap (λ k. is_some (leaving_reply c m k y)) next
      ∙ reply_leaves s y head.0 (omega (arith, hs)) hy head.1
      ∙ ap (λ k. has_reply_room c m k (unshuffled c.stages y / 2)) less
      ∙ ap (λ z. has_reply_room c m (suc s - 1) (z / 2)) (sym is)

  -- ---- requests
  abbrev before : Machine
  before = before_requests c m

  pub lane_before : (s x : ℕ) → s < c.stages → x < size c → (lane_at before s x).queue ≡ (lane_at m s x).queue
  lane_before s x hs hx = ap (λ l. l.queue) (lane-memory_phase c (reply_phase c m) s x ∙ lane-reply_phase c m s x hs hx)

  abbrev head : ℕ → ℕ → Option Request
  head s x = request_of (slice_get (lane_at m s x).queue 0)

  head_before : (s x : ℕ) → s < c.stages → x < size c → request_of (slice_get (lane_at before s x).queue 0) ≡ head s x
  head_before s x hs hx = ap (λ q. request_of (slice_get q 0)) (lane_before s x hs hx)

  pub no_request_leaves : (s x : ℕ) → s < c.stages → x < size c → head s x ≡ None → is_some (leaving_request c before s x) ≡ false
  no_request_leaves s x hs hx none = none_of _ _ (leaving_head c range before s x hs hx) (head_before s x hs hx ∙ none)

  pub request_leaves_last : (s x : ℕ) (r : Request) → s ≡ last_stage c → s < c.stages → x < size c → head s x ≡ Some r → is_some (leaving_request c before s x) ≡ is_nothing (module_at before x).inp
  request_leaves_last s x r last hs hx is =
      ap is_some (leaving_at_last c range before s x last)
      ∙ entered (module_at before x).inp _ r (ap (λ k. request_of (slice_get (lane_at before k x).queue 0)) (sym last) ∙ head_before s x hs hx ∙ is)

  pub request_leaves_below : (s x z : ℕ) (r : Request) → s + 1 < c.stages → x < size c → head s x ≡ Some r → z ≡ request_exit c (s + 1) (shuffled c.stages x) r → z < size c → is_some (leaving_request c before s x) ≡ nat_le (length (lane_at m (s + 1) z).queue + 2) c.request_places
  unfolding arriving_request
  request_leaves_below s x z r hs hx is exit hz =
      let y = shuffled c.stages x in
      let from : request_before c before (s + 1) y ≡ Some r = before_next c range before s x hx ∙ head_before s x (omega arith) hx ∙ is in
      ap is_some (leaving_below c range before s x (omega arith))
      ∙ ap (λ o. is_some (admitted c before (s + 1) y o)) from
      ∙ some_if (has_request_room c before (s + 1) (request_exit c (s + 1) y r)) r
      ∙ ap (has_request_room c before (s + 1)) (sym exit)
      ∙ ap (λ (q : List QueueEntry). nat_le (length q + 2) c.request_places) (lane_before (s + 1) z hs hz)

  -- ---- whether a module is free when the requests move
  left_by : (b : ModuleState) (o : Option ReplyMessage) (room : Bool) → b.out ≡ o → is_nothing (without_reply b (elim room [ true ↦ b.out | false ↦ None ])).out ≡ (is_nothing b.out || room)
  left_by b None true is = rw is refl
  left_by b None false is = rw is refl
  left_by b (Some r) true is = rw is refl
  left_by b (Some r) false is = rw is refl

  left_or_empty : (b : ModuleState) (room : Bool) → is_nothing (without_reply b (elim room [ true ↦ b.out | false ↦ None ])).out ≡ (is_nothing b.out || room)
  left_or_empty b room = left_by b b.out room refl

  same_inp : (b : ModuleState) (o : Option ReplyMessage) → (without_reply b o).inp ≡ b.inp
  same_inp b None = refl
  same_inp b (Some r) = refl

  pub module_is_free : (k : ℕ) → k < size c → is_nothing (module_at before k).inp ≡ (is_nothing (module_at m k).inp || (is_nothing (module_at m k).out || has_reply_room c m (last_stage c) (k / 2)))
  unfolding arriving_reply
  module_is_free k hk =
      let b = module_at m k in
      let room = has_reply_room c m (last_stage c) (k / 2) in
      let arrives : arriving_reply c m (last_stage c) k ≡ elim room [ true ↦ b.out | false ↦ None ] = ap (λ (o : Option ReplyMessage). elim room [ true ↦ o | false ↦ None ]) (before_at_last c range m (last_stage c) k refl) in
      let left = without_reply b (arriving_reply c m (last_stage c) k) in
      ap (λ (s : ModuleState). is_nothing s.inp) (memory_module-memory_phase c (reply_phase c m) k hk ∙ ap serve (memory_module-reply_phase c m k hk))
      ∙ free_after_serving left left.inp left.out refl refl
      ∙ ap (λ i. is_nothing i || is_nothing left.out) (same_inp b (arriving_reply c m (last_stage c) k))
      ∙ ap (λ o. is_nothing b.inp || is_nothing (without_reply b o).out) arrives
      ∙ ap (λ z. is_nothing b.inp || z) (left_or_empty b room)

  pub free_without_request : (k : ℕ) → k < size c → is_some (option_map (λ (p : Placed). p.request) (module_at m k).inp) ≡ not true → is_nothing (module_at before k).inp ≡ true
  free_without_request k hk none = module_is_free k hk ∙ ap (λ b. b || (is_nothing (module_at m k).out || has_reply_room c m (last_stage c) (k / 2))) (nothing_if (module_at m k).inp true none)

  pub free_without_reply : (k : ℕ) → k < size c → is_some (module_at m k).out ≡ not true → is_nothing (module_at before k).inp ≡ true
  free_without_reply k hk none =
      module_is_free k hk
      ∙ ap (λ b. is_nothing (module_at m k).inp || (b || has_reply_room c m (last_stage c) (k / 2))) (no_reply_if (module_at m k).out true none)
      ∙ true_last (is_nothing (module_at m k).inp)

  pub free_with_room : (k : ℕ) → k < size c → is_some (option_map (λ (p : Placed). p.request) (module_at m k).inp) ≡ not false → is_some (module_at m k).out ≡ not false → is_nothing (module_at before k).inp ≡ has_reply_room c m (last_stage c) (k / 2)
  free_with_room k hk waits stays =
      module_is_free k hk
      ∙ ap (λ b. b || (is_nothing (module_at m k).out || has_reply_room c m (last_stage c) (k / 2))) (nothing_if (module_at m k).inp false waits)
      ∙ ap (λ b. b || has_reply_room c m (last_stage c) (k / 2)) (no_reply_if (module_at m k).out false stays)
