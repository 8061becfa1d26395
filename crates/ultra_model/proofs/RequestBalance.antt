-- the request phase keeps the balance: every request that leaves a place comes to the next
use Rattle.std.proofs.Common.{◌≡◌, ℕ, ◌+◌, ◌-◌, ◌*◌, ◌/◌, ◌%◌, ◌^◌, ◌<◌, List, [], ◌∷◌, ◌++◌, Bool, true, false, refl, arith, sym, ◌∙◌, ap, subst, ◌⊎◌, inl, inr}
use Rattle.std.specs.Prelude.{Option, Some, None, slice_get, ◌==◌}
use Rattle.std.proofs.lemmas.Bool.{eqb-true}
use Rattle.ultra_msg.specs.declared.Request.{Request}
use Rattle.ultra_route.specs.Route.{shuffled, unshuffled, bit_of}
use Rattle.ultra_route.proofs.Table.{sizes}
use Rattle.ultra_switch.specs.{declared.QueueEntry.QueueEntry, Queues.request_of}
use Rattle.ultra_mem.specs.{declared.Placed.Placed, Serve.ModuleState}
use Rattle.ultra_model.specs.{Places.after_leaving, Ranges.AreInRange}
use Rattle.ultra_model.specs.Machine.{Settings, Machine, size, last_stage, lane_at, replies_at, module_at, element_at, request_exit}
use Rattle.ultra_model.specs.Phases.{has_request_room, request_before, admitted, arriving_request, entering, with_request, leaving_request, requests_by, arrivals_by, arrivals, lane_after_leaving, request_phase}
use Rattle.ultra_model.specs.Balance.{weight, count, count_option, total, passes, entry_passes, lane_on_way, replies_on_way, module_on_way, pending_on_way, on_way, all_opened, IsBalanced}
use Rattle.ultra_model.proofs.{Each.if_tested, Counting.{count-append, count-leaving, arrive_all_way}, Routes.turns_back, ReplyBalance.last_next, AtPlaces.{lane-request_phase, memory_module-request_phase, element-request_phase}}
use Rattle.ultra_model.proofs.Sums.{total_next, total_front, total_same, total_plus, total_pairs, total_shuffled, table_same, table_plus}
use Rattle.ultra_model.proofs.Neighbours.{next_is, itself, other, one_neighbour, even_half, odd_half}

module _ (t : ℕ → ℕ → Bool) where
  -- what leaves a queue toward memory is its first or nothing
  count-leaving_request : (o : Option Request) (q : List QueueEntry) → (o ≡ request_of (slice_get q 0)) ⊎ (o ≡ None) → count_option (passes t) o + count (entry_passes t) (after_leaving o q) ≡ count (entry_passes t) q
  count-leaving_request o [] (inl e) = rw e (omega arith)
  count-leaving_request o (x ∷ xs) (inl e) = rw e refl
  count-leaving_request o q (inr e) = rw e (omega arith)

  entered_module : (c : Settings) (b : ModuleState) (i : Option Placed) (o : Option Request) → b.inp ≡ i
      → module_on_way t (with_request c b (elim i [ None ↦ o | Some r ↦ None ])) ≡ module_on_way t b + count_option (passes t) (elim i [ None ↦ o | Some r ↦ None ])
  entered_module c b (Some p) o e = omega arith
  entered_module c b None None e = omega arith
  entered_module c b None (Some r) e = rw e (omega arith)

  in_either_order : (b : Bool) (xs ys : List Request) → count (passes t) (elim b [ true ↦ xs ++ ys | false ↦ ys ++ xs ]) ≡ count (passes t) xs + count (passes t) ys
  in_either_order true xs ys = count-append (passes t) xs ys
  in_either_order false xs ys = omega (arith, count-append (passes t) ys xs)

  one_way : (r : Request) (a b : Bool) → weight a + weight b ≡ 1 → count (passes t) (elim a [ true ↦ r ∷ [] | false ↦ [] ]) + count (passes t) (elim b [ true ↦ r ∷ [] | false ↦ [] ]) ≡ weight (passes t r)
  one_way r true true e = absurd (omega (arith, e))
  one_way r true false e = omega arith
  one_way r false true e = omega arith
  one_way r false false e = absurd (omega (arith, e))

module _ (c : Settings) (range : AreInRange c) (m : Machine) where
  -- ---- where requests come from
  admitted_or_none : (s y : ℕ) (o : Option Request) → (admitted c m s y o ≡ o) ⊎ (admitted c m s y o ≡ None)
  admitted_or_none s y None = inl refl
  admitted_or_none s y (Some r) = if_tested (has_request_room c m s (request_exit c s y r)) (λ (o : Option Request). (o ≡ Some r) ⊎ (o ≡ None)) (Some r) None (λ z. inl refl) (λ z. inr refl)

  pub arriving_from : (s y : ℕ) (o : Option Request) → request_before c m s y ≡ o → (arriving_request c m s y ≡ o) ⊎ (arriving_request c m s y ≡ None)
  unfolding arriving_request
  arriving_from s y o e = subst (λ z. (arriving_request c m s y ≡ z) ⊎ (arriving_request c m s y ≡ None)) e (admitted_or_none s y (request_before c m s y))

  pub before_next : (s x : ℕ) → x < size c → request_before c m (s + 1) (shuffled c.stages x) ≡ request_of (slice_get (lane_at m s x).queue 0)
  before_next s x h =
      let y = shuffled c.stages x in
      let f : Bool → Option Request = λ b. elim b [ true ↦ slice_get (element_at m (unshuffled c.stages y)).interface.pending 0 | false ↦ request_of (slice_get (lane_at m (s + 1 - 1) (unshuffled c.stages y)).queue 0) ] in
      let less : s + 1 - 1 ≡ s = omega arith in
      ap f (next_is s) ∙ (ap (λ n. request_of (slice_get (lane_at m n (unshuffled c.stages y)).queue 0)) less ∙ ap (λ z. request_of (slice_get (lane_at m s z).queue 0)) (turns_back c range x h).back)

  pub before_first : (p : ℕ) → p < size c → request_before c m 0 (shuffled c.stages p) ≡ slice_get (element_at m p).interface.pending 0
  before_first p h = ap (λ z. slice_get (element_at m z).interface.pending 0) (turns_back c range p h).back

  pub leaving_at_last : (s x : ℕ) → s ≡ last_stage c → leaving_request c m s x ≡ entering c m x
  leaving_at_last s x e =
      let f : Bool → Option Request = λ b. elim b [ true ↦ entering c m x | false ↦ arriving_request c m (s + 1) (shuffled c.stages x) ] in
      let here : (s == last_stage c) ≡ true = rw e (itself (last_stage c)) in
      ap f here

  pub leaving_below : (s x : ℕ) → s < last_stage c → leaving_request c m s x ≡ arriving_request c m (s + 1) (shuffled c.stages x)
  leaving_below s x h =
      let f : Bool → Option Request = λ b. elim b [ true ↦ entering c m x | false ↦ arriving_request c m (s + 1) (shuffled c.stages x) ] in
      ap f (other s (last_stage c) (omega arith))

  entering_or_none : (i : Option Placed) (o : Option Request) → ((elim i [ None ↦ o | Some p ↦ None ]) ≡ o) ⊎ ((elim i [ None ↦ o | Some p ↦ None ]) ≡ None)
  entering_or_none None o = inl refl
  entering_or_none (Some p) o = inr refl

  abbrev IsHeadOrNone : ℕ → ℕ → Option Request → Type 0
  IsHeadOrNone s x o = (o ≡ request_of (slice_get (lane_at m s x).queue 0)) ⊎ (o ≡ None)

  pub leaving_head : (s x : ℕ) → s < c.stages → x < size c → IsHeadOrNone s x (leaving_request c m s x)
  leaving_head s x hs hx =
      if_tested (s == last_stage c) (λ o. IsHeadOrNone s x o) (entering c m x) (arriving_request c m (s + 1) (shuffled c.stages x))
      (λ z. let e : s ≡ last_stage c = eqb-true s (last_stage c) z in
      subst (λ n. IsHeadOrNone n x (entering c m x)) (sym e) (entering_or_none (module_at m x).inp (request_of (slice_get (lane_at m (last_stage c) x).queue 0))))
      (λ z. arriving_from (s + 1) (shuffled c.stages x) (request_of (slice_get (lane_at m s x).queue 0)) (before_next s x hx))

  module _ (t : ℕ → ℕ → Bool) where
    abbrev pub arriving : ℕ → ℕ → ℕ
    arriving s y = count_option (passes t) (arriving_request c m s y)

    abbrev pub leaving : ℕ → ℕ → ℕ
    leaving s x = count_option (passes t) (leaving_request c m s x)

    abbrev pub enters : ℕ → ℕ
    enters k = count_option (passes t) (entering c m k)

    abbrev pub by_exit : ℕ → ℕ → ℕ → ℕ
    by_exit s y x = count (passes t) (arrivals_by c m s y x)

    abbrev pub arrivals_at : ℕ → ℕ → ℕ
    arrivals_at s x = by_exit s (2 * (x / 2)) x + by_exit s (2 * (x / 2) + 1) x

    -- ---- one place
    pub lane_step : (s x : ℕ) → s < c.stages → x < size c → lane_on_way t (lane_at (request_phase c m) s x) + leaving s x ≡ lane_on_way t (lane_at m s x) + arrivals_at s x
    lane_step s x hs hx =
        let come = arrive_all_way t c.wait_places (lane_after_leaving c m s x) (arrivals c m s x) in
        let order = in_either_order t (m.cycles % 2 == 0) (arrivals_by c m s (2 * (x / 2)) x) (arrivals_by c m s (2 * (x / 2) + 1) x) in
        let left = count-leaving_request t (leaving_request c m s x) (lane_at m s x).queue (leaving_head s x hs hx) in
        rw (lane-request_phase c m s x hs hx) (omega (arith, come, order, left))

    -- a request leaves by one of two neighbours
    by_two : (s y k : ℕ) (o : Option Request) → y / 2 ≡ k → count (passes t) (requests_by c s y (2 * k) o) + count (passes t) (requests_by c s y (2 * k + 1) o) ≡ count_option (passes t) o
    by_two s y k None e = refl
    by_two s y k (Some r) e =
        one_way t r (request_exit c s y r == 2 * k) (request_exit c s y r == 2 * k + 1)
        (one_neighbour k (bit_of (last_stage c - s) (r.cell % size c)) (request_exit c s y r) (omega arith) (rw e refl))

    -- ---- all places of a stage
    pub arrivals_all : (s : ℕ) → total (size c) (λ x. arrivals_at s x) ≡ total (size c) (λ y. arriving s y)
    arrivals_all s =
        let half = 2 ^ (c.stages - 1) in
        let twice : size c ≡ 2 * half = sym (sizes c.stages range.some_stages range.most_stages).0 in
        let by_position = total_pairs half (size c) (λ x. arrivals_at s x) twice in
        let by_entry = total_pairs half (size c) (λ y. arriving s y) twice in
        let each : total half (λ k. arrivals_at s (2 * k) + arrivals_at s (2 * k + 1)) ≡ total half (λ k. arriving s (2 * k) + arriving s (2 * k + 1)) =
        total_same half _ _ (λ k l.
        let zero = by_two s (2 * k) k (arriving_request c m s (2 * k)) (even_half k) in
        let one = by_two s (2 * k + 1) k (arriving_request c m s (2 * k + 1)) (odd_half k) in
        let even : arrivals_at s (2 * k) ≡ by_exit s (2 * k) (2 * k) + by_exit s (2 * k + 1) (2 * k) = ap (λ n. by_exit s (2 * n) (2 * k) + by_exit s (2 * n + 1) (2 * k)) (even_half k) in
        let odd : arrivals_at s (2 * k + 1) ≡ by_exit s (2 * k) (2 * k + 1) + by_exit s (2 * k + 1) (2 * k + 1) = ap (λ n. by_exit s (2 * n) (2 * k + 1) + by_exit s (2 * n + 1) (2 * k + 1)) (odd_half k) in
        omega (arith, zero, one, even, odd)) in
        by_position ∙ (each ∙ sym by_entry)

    pub leaving_all : (s : ℕ) → s < last_stage c → total (size c) (λ x. leaving s x) ≡ total (size c) (λ y. arriving (s + 1) y)
    leaving_all s h =
        total_same (size c) _ _ (λ x l. ap (λ (o : Option Request). count_option (passes t) o) (leaving_below s x h))
        ∙ total_shuffled c.stages range.some_stages range.most_stages (λ y. arriving (s + 1) y)

    -- ---- all stages
    all_arriving : total c.stages (λ s. total (size c) (λ y. arriving s y)) ≡ total (size c) (λ y. arriving 0 y) + total (last_stage c) (λ s. total (size c) (λ y. arriving (s + 1) y))
    all_arriving = ap (λ n. total n (λ s. total (size c) (λ y. arriving s y))) (last_next c range m) ∙ total_front (last_stage c) (λ s. total (size c) (λ y. arriving s y))

    all_leaving : total c.stages (λ s. total (size c) (λ x. leaving s x)) ≡ total (last_stage c) (λ s. total (size c) (λ y. arriving (s + 1) y)) + total (size c) enters
    all_leaving =
        let back = ap (λ n. total n (λ s. total (size c) (λ x. leaving s x))) (last_next c range m) ∙ total_next (last_stage c) (λ s. total (size c) (λ x. leaving s x)) in
        let rest : total (last_stage c) (λ s. total (size c) (λ x. leaving s x)) ≡ total (last_stage c) (λ s. total (size c) (λ y. arriving (s + 1) y)) = total_same (last_stage c) _ _ (λ s l. leaving_all s l) in
        let last : total (size c) (λ x. leaving (last_stage c) x) ≡ total (size c) enters = total_same (size c) _ _ (λ x l. ap (λ (o : Option Request). count_option (passes t) o) (leaving_at_last (last_stage c) x refl)) in
        omega (arith, back, rest, last)

    all_lanes : total c.stages (λ s. total (size c) (λ x. lane_on_way t (lane_at (request_phase c m) s x))) + total c.stages (λ s. total (size c) (λ x. leaving s x))
        ≡ total c.stages (λ s. total (size c) (λ x. lane_on_way t (lane_at m s x))) + total c.stages (λ s. total (size c) (λ y. arriving s y))
    all_lanes =
        let after = table_plus c.stages (size c) (λ s x. lane_on_way t (lane_at (request_phase c m) s x)) leaving in
        let before = table_plus c.stages (size c) (λ s x. lane_on_way t (lane_at m s x)) arrivals_at in
        let each = table_same c.stages (size c) (λ s x. lane_on_way t (lane_at (request_phase c m) s x) + leaving s x) (λ s x. lane_on_way t (lane_at m s x) + arrivals_at s x) lane_step in
        let come : total c.stages (λ s. total (size c) (λ x. arrivals_at s x)) ≡ total c.stages (λ s. total (size c) (λ y. arriving s y)) = total_same c.stages _ _ (λ s l. arrivals_all s) in
        omega (arith, after, before, each, come)

    pub all_modules : total (size c) (λ k. module_on_way t (module_at (request_phase c m) k)) ≡ total (size c) (λ k. module_on_way t (module_at m k)) + total (size c) enters
    all_modules =
        total_same (size c) _ _ (λ k h. rw (memory_module-request_phase c m k h) (entered_module t c (module_at m k) (module_at m k).inp (request_of (slice_get (lane_at m (last_stage c) k).queue 0)) refl))
        ∙ total_plus (size c) (λ k. module_on_way t (module_at m k)) enters

    pub all_pending : total (size c) (λ p. pending_on_way t (element_at (request_phase c m) p)) + total (size c) (λ y. arriving 0 y) ≡ total (size c) (λ p. pending_on_way t (element_at m p))
    all_pending =
        let after = total_plus (size c) (λ p. pending_on_way t (element_at (request_phase c m) p)) (λ p. arriving 0 (shuffled c.stages p)) in
        let each : total (size c) (λ p. pending_on_way t (element_at (request_phase c m) p) + arriving 0 (shuffled c.stages p)) ≡ total (size c) (λ p. pending_on_way t (element_at m p)) =
        total_same (size c) _ _ (λ p h.
        let y = shuffled c.stages p in
        let left = count-leaving (passes t) (arriving_request c m 0 y) (element_at m p).interface.pending (arriving_from 0 y (slice_get (element_at m p).interface.pending 0) (before_first p h)) in
        rw (element-request_phase c m p h) (omega (arith, left))) in
        let order = total_shuffled c.stages range.some_stages range.most_stages (λ y. arriving 0 y) in
        omega (arith, after, each, order)

    all_replies : total c.stages (λ s. total (size c) (λ y. replies_on_way t (replies_at (request_phase c m) s y))) ≡ total c.stages (λ s. total (size c) (λ y. replies_on_way t (replies_at m s y)))
    unfolding request_phase
    all_replies = refl

    -- as many messages as before
    pub on_way-request_phase : on_way t c (request_phase c m) ≡ on_way t c m
    on_way-request_phase = omega (arith, all_arriving, all_leaving, all_lanes, all_modules, all_pending, all_replies)

    pub all_opened_as_before : all_opened t c (request_phase c m) ≡ all_opened t c m
    all_opened_as_before = total_same (size c) _ _ (λ p h. rw (element-request_phase c m p h) refl)

  pub balanced-request_phase : IsBalanced c m → IsBalanced c (request_phase c m)
  balanced-request_phase b = record {
    balanced = λ t. on_way-request_phase t ∙ (b.balanced t ∙ sym (all_opened_as_before t));
    different = λ p h a. rw (element-request_phase c m p h) (b.different p h a);
  }
