-- the machine after each phase, place by place
use Rattle.std.proofs.Common.{◌≡◌, ℕ, List, [], refl}
use Rattle.std.specs.Prelude.{◌<◌, ◌*◌, ◌+◌, None}
use Rattle.ultra_switch.specs.Arrive.{empty_lane}
use Rattle.ultra_mem.specs.Serve.{empty_module, serve}
use Rattle.ultra_isa.specs.declared.Instr.{Instr}
use Rattle.ultra_model.specs.Places.{places}
use Rattle.ultra_model.specs.Machine.{Settings, Machine, size, last_stage, fresh_element, given_value, start, lane_at, replies_at, module_at, element_at}
use Rattle.ultra_model.specs.Phases.{deliver, without_reply, with_request, without_pending, stepped, step_at, arriving_reply, delivered, lane_after_split, next_replies, next_lane, entering, arriving_request, reply_phase, memory_phase, request_phase, processor_phase}
use Rattle.ultra_model.proofs.Each.{places_at, table_at}
use Rattle.ultra_route.specs.Route.{shuffled}

module _ (c : Settings) where
  -- ---- at first
  pub lane-start : (s x : ℕ) → s < c.stages → x < size c → lane_at (start c) s x ≡ empty_lane
  unfolding start
  lane-start s x hs hx = table_at c.stages (size c) (λ s x. empty_lane) s x empty_lane hs hx

  pub replies-start : (s y : ℕ) → s < c.stages → y < size c → replies_at (start c) s y ≡ []
  unfolding start
  replies-start s y hs hy = table_at c.stages (size c) (λ s y. []) s y [] hs hy

  pub memory_module-start : (k : ℕ) → k < size c → module_at (start c) k ≡ record { cells = places c.cells (λ o. given_value c.initial (o * size c + k) 0); inp = None; out = None }
  unfolding start
  memory_module-start k h = places_at (size c) (λ m. record { cells = places c.cells (λ o. given_value c.initial (o * size c + m) 0); inp = None; out = None }) k empty_module h

  pub element-start : (p : ℕ) → p < size c → element_at (start c) p ≡ fresh_element
  unfolding start
  element-start p h = places_at (size c) (λ p. fresh_element) p fresh_element h

  -- ---- replies
  pub lane-reply_phase : (m : Machine) (s x : ℕ) → s < c.stages → x < size c → lane_at (reply_phase c m) s x ≡ lane_after_split c m s x
  unfolding reply_phase
  lane-reply_phase m s x hs hx = table_at c.stages (size c) (λ s x. lane_after_split c m s x) s x empty_lane hs hx

  pub replies-reply_phase : (m : Machine) (s y : ℕ) → s < c.stages → y < size c → replies_at (reply_phase c m) s y ≡ next_replies c m s y
  unfolding reply_phase
  replies-reply_phase m s y hs hy = table_at c.stages (size c) (λ s y. next_replies c m s y) s y [] hs hy

  pub memory_module-reply_phase : (m : Machine) (k : ℕ) → k < size c → module_at (reply_phase c m) k ≡ without_reply (module_at m k) (arriving_reply c m (last_stage c) k)
  unfolding reply_phase
  memory_module-reply_phase m k h = places_at (size c) (λ k. without_reply (module_at m k) (arriving_reply c m (last_stage c) k)) k empty_module h

  pub element-reply_phase : (m : Machine) (p : ℕ) → p < size c → element_at (reply_phase c m) p ≡ deliver (element_at m p) (delivered c m p)
  unfolding reply_phase
  element-reply_phase m p h = places_at (size c) (λ p. deliver (element_at m p) (delivered c m p)) p fresh_element h

  -- ---- memory
  pub memory_module-memory_phase : (m : Machine) (k : ℕ) → k < size c → module_at (memory_phase c m) k ≡ serve (module_at m k)
  unfolding memory_phase
  memory_module-memory_phase m k h = places_at (size c) (λ k. serve (module_at m k)) k empty_module h

  -- ---- requests
  pub lane-request_phase : (m : Machine) (s x : ℕ) → s < c.stages → x < size c → lane_at (request_phase c m) s x ≡ next_lane c m s x
  unfolding request_phase
  lane-request_phase m s x hs hx = table_at c.stages (size c) (λ s x. next_lane c m s x) s x empty_lane hs hx

  pub memory_module-request_phase : (m : Machine) (k : ℕ) → k < size c → module_at (request_phase c m) k ≡ with_request c (module_at m k) (entering c m k)
  unfolding request_phase
  memory_module-request_phase m k h = places_at (size c) (λ k. with_request c (module_at m k) (entering c m k)) k empty_module h

  pub element-request_phase : (m : Machine) (p : ℕ) → p < size c → element_at (request_phase c m) p ≡ without_pending (element_at m p) (arriving_request c m 0 (shuffled c.stages p))
  unfolding request_phase
  element-request_phase m p h = places_at (size c) (λ p. without_pending (element_at m p) (arriving_request c m 0 (shuffled c.stages p))) p fresh_element h

  -- ---- processors
  pub element-processor_phase : (program : List Instr) (m : Machine) (p : ℕ) → p < size c → element_at (processor_phase c program m) p ≡ stepped (element_at m p) (step_at c program m p)
  unfolding processor_phase
  element-processor_phase program m p h = places_at (size c) (λ p. stepped (element_at m p) (step_at c program m p)) p fresh_element h

  -- ---- what a phase leaves as it is
  pub replies-memory_phase : (m : Machine) (s y : ℕ) → replies_at (memory_phase c m) s y ≡ replies_at m s y
  unfolding memory_phase
  replies-memory_phase m s y = refl

  pub lane-memory_phase : (m : Machine) (s x : ℕ) → lane_at (memory_phase c m) s x ≡ lane_at m s x
  unfolding memory_phase
  lane-memory_phase m s x = refl

  pub element-memory_phase : (m : Machine) (p : ℕ) → element_at (memory_phase c m) p ≡ element_at m p
  unfolding memory_phase
  element-memory_phase m p = refl

  pub replies-request_phase : (m : Machine) (s y : ℕ) → replies_at (request_phase c m) s y ≡ replies_at m s y
  unfolding request_phase
  replies-request_phase m s y = refl

  pub lane-processor_phase : (program : List Instr) (m : Machine) (s x : ℕ) → lane_at (processor_phase c program m) s x ≡ lane_at m s x
  unfolding processor_phase
  lane-processor_phase program m s x = refl

  pub replies-processor_phase : (program : List Instr) (m : Machine) (s y : ℕ) → replies_at (processor_phase c program m) s y ≡ replies_at m s y
  unfolding processor_phase
  replies-processor_phase program m s y = refl

  pub memory_module-processor_phase : (program : List Instr) (m : Machine) (k : ℕ) → module_at (processor_phase c program m) k ≡ module_at m k
  unfolding processor_phase
  memory_module-processor_phase program m k = refl
