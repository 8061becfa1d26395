-- the start is balanced, and the memory phase and the processor phase keep it so
use Rattle.std.proofs.Common.{◌≡◌, ℕ, ◌+◌, ◌<◌, ◌≤◌, List, [], ◌∷◌, Bool, true, false, refl, arith, sym, ◌∙◌, ap}
use Rattle.std.specs.Prelude.{Option, Some, None, ◌==◌, ◌||◌}
use Rattle.std.proofs.lemmas.Bool.{eqb-true}
use Rattle.ultra_msg.specs.declared.Request.{Request}
use Rattle.ultra_pni.specs.{declared.OpenCell.OpenCell, Interface.{Interface, is_open}}
use Rattle.ultra_isa.specs.{declared.Instr.Instr, Instruction.Site}
use Rattle.ultra_isa.proofs.Steps.{SendsInto, step_is}
use Rattle.ultra_model.specs.Machine.{Settings, Machine, size, site, start, lane_at, replies_at, module_at, element_at}
use Rattle.ultra_model.specs.Phases.{memory_phase, processor_phase, step_at}
use Rattle.ultra_model.specs.Balance.{weight, count, total, passes, lane_on_way, replies_on_way, module_on_way, pending_on_way, opened_by, on_way, all_opened, IsBalanced}
use Rattle.ultra_model.proofs.{Sums.{total_same, total_plus, total_zero}, Counting.{count-append, serve_way}}
use Rattle.ultra_model.proofs.AtPlaces.{lane-start, replies-start, memory_module-start, element-start, memory_module-memory_phase, element-processor_phase}

both_false : (a b : Bool) → (a || b) ≡ false → (a ≡ false) × (b ≡ false)
both_false true b h = cc
both_false false b h = (refl, h)

-- what isn't open counts nothing
pub none_open : (a : ℕ) (os : List OpenCell) → is_open a os ≡ false → count (λ (o : OpenCell). o.cell == a) os ≡ 0
none_open a [] e = refl
none_open a (o ∷ os) e =
    let parts = both_false (o.cell == a) (is_open a os) e in
    rw parts.0 (omega (arith, none_open a os parts.1))

-- one cell more, that wasn't open
one_more : (b a : ℕ) (os : List OpenCell) (test : Bool) → (a == b) ≡ test → is_open a os ≡ false → count (λ (o : OpenCell). o.cell == b) os ≤ 1 → count (λ (o : OpenCell). o.cell == b) os + weight test ≤ 1
one_more b a os true e h l =
    let same : a ≡ b = eqb-true a b e in
    let none : count (λ (o : OpenCell). o.cell == b) os ≡ 0 = rw (← same) (none_open a os h) in
    omega (arith, none)
one_more b a os false e h l = omega (arith, l)

sends_different : (s : Site) (most : ℕ) (i j : Interface) (o : Option Request) → SendsInto s most i j o → (b : ℕ)
    → count (λ (o : OpenCell). o.cell == b) i.opened ≤ 1 → count (λ (o : OpenCell). o.cell == b) j.opened ≤ 1
sends_different s most i j None e b l = rw e l
sends_different s most i j (Some r) h b l =
    let opening = count-append (λ (o : OpenCell). o.cell == b) i.opened (record { cell = r.cell; target = h.4.0 } ∷ []) in
    let more = one_more b r.cell i.opened (r.cell == b) refl h.2 l in
    rw h.4.1 (omega (arith, opening, more))

-- a step opens a cell for each request that it sends
sends_balanced : (t : ℕ → ℕ → Bool) (s : Site) (most : ℕ) (i j : Interface) (o : Option Request) → SendsInto s most i j o
    → count (passes t) j.pending + count (λ (o : OpenCell). t s.pe o.cell) i.opened ≡ count (passes t) i.pending + count (λ (o : OpenCell). t s.pe o.cell) j.opened
sends_balanced t s most i j None e = rw e refl
sends_balanced t s most i j (Some r) h =
    let sent = count-append (passes t) i.pending (r ∷ []) in
    let opening = count-append (λ (o : OpenCell). t s.pe o.cell) i.opened (record { cell = r.cell; target = h.4.0 } ∷ []) in
    let here : weight (t r.pe r.cell) ≡ weight (t s.pe r.cell) = ap (λ p. weight (t p r.cell)) h.0 in
    rw h.4.1 (omega arith)

module _ (c : Settings) where
  -- ---- at first
  table_zero : (m n : ℕ) (f : ℕ → ℕ → ℕ) → ((s x : ℕ) → s < m → x < n → f s x ≡ 0) → total m (λ s. total n (λ x. f s x)) ≡ 0
  table_zero m n f h = total_zero m _ (λ s hs. total_zero n _ (λ x hx. h s x hs hx))

  nothing_on_way : (t : ℕ → ℕ → Bool) → on_way t c (start c) ≡ 0
  nothing_on_way t =
      let lanes = table_zero c.stages (size c) (λ s x. lane_on_way t (lane_at (start c) s x)) (λ s x hs hx. rw (lane-start c s x hs hx) refl) in
      let replies = table_zero c.stages (size c) (λ s y. replies_on_way t (replies_at (start c) s y)) (λ s y hs hy. rw (replies-start c s y hs hy) refl) in
      let modules = total_zero (size c) (λ k. module_on_way t (module_at (start c) k)) (λ k h. rw (memory_module-start c k h) refl) in
      let pending = total_zero (size c) (λ p. pending_on_way t (element_at (start c) p)) (λ p h. rw (element-start c p h) refl) in
      omega (arith, lanes, replies, modules, pending)

  pub balanced-start : IsBalanced c (start c)
  balanced-start = record {
    balanced = λ t. nothing_on_way t ∙ sym (total_zero (size c) (λ p. opened_by t p (element_at (start c) p)) (λ p h. rw (element-start c p h) refl));
    different = λ p h a. rw (element-start c p h) (omega arith);
  }

  -- ---- memory
  memory_lanes : (m : Machine) (t : ℕ → ℕ → Bool) → on_way t c (memory_phase c m) ≡ on_way t c m
  unfolding memory_phase
  memory_lanes m t =
      let modules : total (size c) (λ k. module_on_way t (module_at (memory_phase c m) k)) ≡ total (size c) (λ k. module_on_way t (module_at m k)) =
      total_same (size c) _ _ (λ k h. rw (memory_module-memory_phase c m k h) (serve_way t (module_at m k))) in
      omega (arith, modules)

  pub balanced-memory_phase : (m : Machine) → IsBalanced c m → IsBalanced c (memory_phase c m)
  unfolding memory_phase
  balanced-memory_phase m b = record {
    balanced = λ t. memory_lanes m t ∙ b.balanced t;
    different = b.different;
  }

  -- ---- processors
  module _ (program : List Instr) (m : Machine) where
    pub sends : (p : ℕ) → SendsInto (site c p) c.most_open (element_at m p).interface (step_at c program m p).interface (step_at c program m p).sent
    sends p = (step_is (site c p) c.most_open (element_at m p).interface program (element_at m p).core).into

    -- as many messages more as open cells
    pub element_step : (t : ℕ → ℕ → Bool) (p : ℕ) → p < size c
        → pending_on_way t (element_at (processor_phase c program m) p) + opened_by t p (element_at m p) ≡ pending_on_way t (element_at m p) + opened_by t p (element_at (processor_phase c program m) p)
    element_step t p h =
        rw (element-processor_phase c program m p h)
        (sends_balanced t (site c p) c.most_open (element_at m p).interface (step_at c program m p).interface (step_at c program m p).sent (sends p))

    pub all_elements : (t : ℕ → ℕ → Bool) → total (size c) (λ p. pending_on_way t (element_at (processor_phase c program m) p)) + all_opened t c m
        ≡ total (size c) (λ p. pending_on_way t (element_at m p)) + all_opened t c (processor_phase c program m)
    all_elements t =
        let after = total_plus (size c) (λ p. pending_on_way t (element_at (processor_phase c program m) p)) (λ p. opened_by t p (element_at m p)) in
        let before = total_plus (size c) (λ p. pending_on_way t (element_at m p)) (λ p. opened_by t p (element_at (processor_phase c program m) p)) in
        let each = total_same (size c) (λ p. pending_on_way t (element_at (processor_phase c program m) p) + opened_by t p (element_at m p)) (λ p. pending_on_way t (element_at m p) + opened_by t p (element_at (processor_phase c program m) p)) (element_step t) in
        sym after ∙ (each ∙ before)

    processors_even : (t : ℕ → ℕ → Bool) → on_way t c m ≡ all_opened t c m → on_way t c (processor_phase c program m) ≡ all_opened t c (processor_phase c program m)
    unfolding processor_phase
    processors_even t b = omega (arith, all_elements t, b)

    pub balanced-processor_phase : IsBalanced c m → IsBalanced c (processor_phase c program m)
    balanced-processor_phase b = record {
      balanced = λ t. processors_even t (b.balanced t);
      different = λ p h a. rw (element-processor_phase c program m p h)
          (sends_different (site c p) c.most_open (element_at m p).interface (step_at c program m p).interface (step_at c program m p).sent (sends p) a (b.different p h a));
    }
