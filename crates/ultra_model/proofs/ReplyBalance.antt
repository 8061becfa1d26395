-- the reply phase keeps the balance: a delivery takes one message off the way and closes one cell
use Rattle.std.proofs.Common.{◌≡◌, ℕ, zero, suc, ◌+◌, ◌-◌, ◌*◌, ◌/◌, ◌^◌, ◌<◌, ◌≤◌, List, [], ◌∷◌, ◌++◌, Bool, true, false, refl, arith, sym, ◌∙◌, ap, subst, ◌⊎◌, inl, inr}
use Rattle.std.specs.Prelude.{Option, Some, None, IfSome, slice_get, ◌==◌}
use Rattle.ultra_msg.specs.declared.ReplyMessage.{ReplyMessage}
use Rattle.ultra_route.specs.Route.{shuffled, unshuffled, bit_of}
use Rattle.ultra_mem.specs.Serve.{ModuleState}
use Rattle.ultra_pni.specs.{declared.OpenCell.OpenCell, Interface.closed}
use Rattle.ultra_model.specs.{Places.after_leaving, Ranges.AreInRange, Routed.{IsReference, IsRouted}}
use Rattle.ultra_model.specs.Machine.{Settings, Machine, Element, size, last_stage, lane_at, replies_at, module_at, element_at, reply_exit}
use Rattle.ultra_model.specs.Phases.{deliver, delivered, without_reply, replies_made, arriving_reply, reply_before, has_reply_room, leaving_reply, replies_at_exit, reply_phase}
use Rattle.ultra_model.specs.Balance.{weight, count, count_option, total, reply_passes, lane_on_way, replies_on_way, module_on_way, pending_on_way, opened_by, on_way, all_opened, IsBalanced}
use Rattle.ultra_model.proofs.Sums.{total_next, total_front, total_same, total_plus, total_only, total_pairs, total_unshuffled, total_shuffled, table_same, table_plus, table_term}
use Rattle.ultra_model.proofs.Neighbours.{next_is, itself, other, one_neighbour, even_half, odd_half}
use Rattle.ultra_model.proofs.Counting.{count-append, count-leaving, count-filters, is_reference, none_false, head_counted, some_known, made_way, closed_way}
use Rattle.ultra_model.proofs.{Routes.{turns_back, delivered_well}, AtPlaces.{lane-reply_phase, replies-reply_phase, memory_module-reply_phase, element-reply_phase}}
use Rattle.ultra_route.proofs.Table.{sizes}

module _ (t : ℕ → ℕ → Bool) where
  -- the reply that leaves a module is one message less there
  left_module : (b : ModuleState) (o : Option ReplyMessage) → (o ≡ b.out) ⊎ (o ≡ None) → module_on_way t (without_reply b o) + count_option (reply_passes t) o ≡ module_on_way t b
  left_module b None e = omega arith
  left_module b (Some r) (inl e) = rw (← e) (omega arith)
  left_module b (Some r) (inr e) = absurd cc

  delivered_pending : (e : Element) (o : Option ReplyMessage) → pending_on_way t (deliver e o) ≡ pending_on_way t e
  delivered_pending e None = refl
  delivered_pending e (Some r) = refl

  -- a delivery to the processing element of an open cell closes that
  delivered_opened : (p : ℕ) (e : Element) (o : Option ReplyMessage) → IfSome o (λ r. (r.pe ≡ p) × (1 ≤ count (λ (o : OpenCell). o.cell == r.cell) e.interface.opened))
      → opened_by t p (deliver e o) + count_option (reply_passes t) o ≡ opened_by t p e
  delivered_opened p e None h = omega arith
  delivered_opened p e (Some r) h = rw h.0 (closed_way t p r.cell e.interface.opened h.1)

module _ (c : Settings) (range : AreInRange c) (m : Machine) where
  pub last_next : c.stages ≡ suc (last_stage c)
  last_next = let some = range.some_stages in omega arith

  -- ---- where replies come from and go
  either_or_none : {X : Type 0} (b : Bool) (x y : Option X) → x ≡ y → ((elim b [ true ↦ x | false ↦ None ]) ≡ y) ⊎ ((elim b [ true ↦ x | false ↦ None ]) ≡ None)
  either_or_none true x y e = inl e
  either_or_none false x y e = inr refl

  pub before_at_last : (s k : ℕ) → s ≡ last_stage c → reply_before c m s k ≡ (module_at m k).out
  before_at_last s k e =
      let f : Bool → Option ReplyMessage = λ b. elim b [ true ↦ (module_at m k).out | false ↦ slice_get (replies_at m (s + 1) (shuffled c.stages k)) 0 ] in
      let here : (s == last_stage c) ≡ true = rw e (itself (last_stage c)) in
      ap f here

  pub before_below : (s x : ℕ) → s < last_stage c → reply_before c m s x ≡ slice_get (replies_at m (s + 1) (shuffled c.stages x)) 0
  before_below s x h =
      let f : Bool → Option ReplyMessage = λ b. elim b [ true ↦ (module_at m x).out | false ↦ slice_get (replies_at m (s + 1) (shuffled c.stages x)) 0 ] in
      ap f (other s (last_stage c) (omega arith))

  pub arriving_from : (s x : ℕ) (o : Option ReplyMessage) → reply_before c m s x ≡ o → (arriving_reply c m s x ≡ o) ⊎ (arriving_reply c m s x ≡ None)
  unfolding arriving_reply
  arriving_from s x o e = either_or_none (has_reply_room c m s (x / 2)) (reply_before c m s x) o e

  -- what leaves a stage but the first comes to the stage before
  pub leaving_next : (s y : ℕ) → leaving_reply c m (s + 1) y ≡ arriving_reply c m s (unshuffled c.stages y)
  leaving_next s y =
      let f : Bool → Option ReplyMessage = λ b. elim b [ true ↦ slice_get (replies_at m (s + 1) y) 0 | false ↦ arriving_reply c m (s + 1 - 1) (unshuffled c.stages y) ] in
      let less : s + 1 - 1 ≡ s = omega arith in
      ap f (next_is s) ∙ ap (λ n. arriving_reply c m n (unshuffled c.stages y)) less

  -- what leaves a queue is its head or nothing
  pub leaving_head : (s y : ℕ) → s < c.stages → y < size c → (leaving_reply c m s y ≡ slice_get (replies_at m s y) 0) ⊎ (leaving_reply c m s y ≡ None)
  leaving_head zero y hs hy = inl refl
  leaving_head (suc s) y hs hy =
      let next : suc s ≡ s + 1 = omega arith in
      let x = unshuffled c.stages y in
      let same : reply_before c m s x ≡ slice_get (replies_at m (s + 1) y) 0 = before_below s x (omega arith) ∙ ap (λ z. slice_get (replies_at m (s + 1) z) 0) (turns_back c range y hy).forth in
      subst (λ n. (leaving_reply c m n y ≡ slice_get (replies_at m n y) 0) ⊎ (leaving_reply c m n y ≡ None)) (sym next)
      (rw (leaving_next s y) (arriving_from s x (slice_get (replies_at m (s + 1) y) 0) same))

  module _ (t : ℕ → ℕ → Bool) where
    abbrev pub arriving : ℕ → ℕ → ℕ
    arriving s x = count_option (reply_passes t) (arriving_reply c m s x)

    abbrev pub leaving : ℕ → ℕ → ℕ
    leaving s y = count_option (reply_passes t) (leaving_reply c m s y)

    abbrev pub made : ℕ → ℕ → ℕ
    made s x = replies_on_way t (replies_made (lane_at m s x).records (arriving_reply c m s x))

    abbrev pub exits : ℕ → ℕ → ℕ → ℕ
    exits s x y = replies_on_way t (replies_at_exit c m s x y)

    abbrev pub exits_at : ℕ → ℕ → ℕ
    exits_at s y = exits s (2 * (y / 2)) y + exits s (2 * (y / 2) + 1) y

    -- ---- one place
    pub lane_step : (s x : ℕ) → s < c.stages → x < size c → lane_on_way t (lane_at (reply_phase c m) s x) + made s x ≡ lane_on_way t (lane_at m s x) + arriving s x
    lane_step s x hs hx =
        let split = made_way t (lane_at m s x).records (arriving_reply c m s x) in
        rw (lane-reply_phase c m s x hs hx) (omega (arith, split))

    pub queue_step : (s y : ℕ) → s < c.stages → y < size c → replies_on_way t (replies_at (reply_phase c m) s y) + leaving s y ≡ replies_on_way t (replies_at m s y) + exits_at s y
    queue_step s y hs hy =
        let left = count-leaving (reply_passes t) (leaving_reply c m s y) (replies_at m s y) (leaving_head s y hs hy) in
        let rest = after_leaving (leaving_reply c m s y) (replies_at m s y) in
        let zero = replies_at_exit c m s (2 * (y / 2)) y in
        let one = replies_at_exit c m s (2 * (y / 2) + 1) y in
        let outer = count-append (reply_passes t) (rest ++ zero) one in
        let inner = count-append (reply_passes t) rest zero in
        rw (replies-reply_phase c m s y hs hy) (omega (arith, left, outer, inner))

    -- the replies that come of a position leave by its two neighbours
    pub two_exits : (s x k : ℕ) → x / 2 ≡ k → made s x ≡ exits s x (2 * k) + exits s x (2 * k + 1)
    two_exits s x k e =
        sym (count-filters (reply_passes t) (λ r. reply_exit c s x r == 2 * k) (λ r. reply_exit c s x r == 2 * k + 1) (replies_made (lane_at m s x).records (arriving_reply c m s x))
        (λ r. one_neighbour k (bit_of (last_stage c - s) r.pe) (reply_exit c s x r) (omega arith) (rw e refl)))

    -- ---- all places of a stage
    pub exits_all : (s : ℕ) → total (size c) (λ y. exits_at s y) ≡ total (size c) (λ x. made s x)
    exits_all s =
        let half = 2 ^ (c.stages - 1) in
        let twice : size c ≡ 2 * half = sym (sizes c.stages range.some_stages range.most_stages).0 in
        let by_exit = total_pairs half (size c) (λ y. exits_at s y) twice in
        let by_position = total_pairs half (size c) (λ x. made s x) twice in
        let each : total half (λ k. exits_at s (2 * k) + exits_at s (2 * k + 1)) ≡ total half (λ k. made s (2 * k) + made s (2 * k + 1)) =
        total_same half _ _ (λ k l.
        let zero = two_exits s (2 * k) k (even_half k) in
        let one = two_exits s (2 * k + 1) k (odd_half k) in
        let even : exits_at s (2 * k) ≡ exits s (2 * k) (2 * k) + exits s (2 * k + 1) (2 * k) = ap (λ n. exits s (2 * n) (2 * k) + exits s (2 * n + 1) (2 * k)) (even_half k) in
        let odd : exits_at s (2 * k + 1) ≡ exits s (2 * k) (2 * k + 1) + exits s (2 * k + 1) (2 * k + 1) = ap (λ n. exits s (2 * n) (2 * k + 1) + exits s (2 * n + 1) (2 * k + 1)) (odd_half k) in
        omega (arith, zero, one, even, odd)) in
        by_exit ∙ (each ∙ sym by_position)

    pub leaving_all : (s : ℕ) → total (size c) (λ y. leaving (s + 1) y) ≡ total (size c) (λ x. arriving s x)
    leaving_all s =
        total_same (size c) _ _ (λ y l. ap (λ (o : Option ReplyMessage). count_option (reply_passes t) o) (leaving_next s y))
        ∙ total_unshuffled c.stages range.some_stages range.most_stages (λ x. arriving s x)

    -- ---- all stages
    all_arriving : total c.stages (λ s. total (size c) (λ x. arriving s x)) ≡ total (last_stage c) (λ s. total (size c) (λ x. arriving s x)) + total (size c) (λ x. arriving (last_stage c) x)
    all_arriving = ap (λ n. total n (λ s. total (size c) (λ x. arriving s x))) last_next ∙ total_next (last_stage c) (λ s. total (size c) (λ x. arriving s x))

    all_leaving : total c.stages (λ s. total (size c) (λ y. leaving s y)) ≡ total (size c) (λ y. leaving 0 y) + total (last_stage c) (λ s. total (size c) (λ x. arriving s x))
    all_leaving =
        let front = ap (λ n. total n (λ s. total (size c) (λ y. leaving s y))) last_next ∙ total_front (last_stage c) (λ s. total (size c) (λ y. leaving s y)) in
        let rest : total (last_stage c) (λ s. total (size c) (λ y. leaving (s + 1) y)) ≡ total (last_stage c) (λ s. total (size c) (λ x. arriving s x)) = total_same (last_stage c) _ _ (λ s l. leaving_all s) in
        omega (arith, front, rest)

    all_lanes : total c.stages (λ s. total (size c) (λ x. lane_on_way t (lane_at (reply_phase c m) s x))) + total c.stages (λ s. total (size c) (λ x. made s x))
        ≡ total c.stages (λ s. total (size c) (λ x. lane_on_way t (lane_at m s x))) + total c.stages (λ s. total (size c) (λ x. arriving s x))
    all_lanes =
        let after = table_plus c.stages (size c) (λ s x. lane_on_way t (lane_at (reply_phase c m) s x)) made in
        let before = table_plus c.stages (size c) (λ s x. lane_on_way t (lane_at m s x)) arriving in
        let each = table_same c.stages (size c) (λ s x. lane_on_way t (lane_at (reply_phase c m) s x) + made s x) (λ s x. lane_on_way t (lane_at m s x) + arriving s x) lane_step in
        sym after ∙ (each ∙ before)

    all_queues : total c.stages (λ s. total (size c) (λ y. replies_on_way t (replies_at (reply_phase c m) s y))) + total c.stages (λ s. total (size c) (λ y. leaving s y))
        ≡ total c.stages (λ s. total (size c) (λ y. replies_on_way t (replies_at m s y))) + total c.stages (λ s. total (size c) (λ x. made s x))
    all_queues =
        let after = table_plus c.stages (size c) (λ s y. replies_on_way t (replies_at (reply_phase c m) s y)) leaving in
        let before = table_plus c.stages (size c) (λ s y. replies_on_way t (replies_at m s y)) exits_at in
        let each = table_same c.stages (size c) (λ s y. replies_on_way t (replies_at (reply_phase c m) s y) + leaving s y) (λ s y. replies_on_way t (replies_at m s y) + exits_at s y) queue_step in
        let exit : total c.stages (λ s. total (size c) (λ y. exits_at s y)) ≡ total c.stages (λ s. total (size c) (λ x. made s x)) = total_same c.stages _ _ (λ s l. exits_all s) in
        omega (arith, after, before, each, exit)

    pub all_modules : total (size c) (λ k. module_on_way t (module_at (reply_phase c m) k)) + total (size c) (λ k. arriving (last_stage c) k) ≡ total (size c) (λ k. module_on_way t (module_at m k))
    all_modules =
        let after = total_plus (size c) (λ k. module_on_way t (module_at (reply_phase c m) k)) (λ k. arriving (last_stage c) k) in
        let each : total (size c) (λ k. module_on_way t (module_at (reply_phase c m) k) + arriving (last_stage c) k) ≡ total (size c) (λ k. module_on_way t (module_at m k)) =
        total_same (size c) _ _ (λ k h.
        rw (memory_module-reply_phase c m k h)
        (left_module t (module_at m k) (arriving_reply c m (last_stage c) k) (arriving_from (last_stage c) k (module_at m k).out (before_at_last (last_stage c) k refl)))) in
        sym after ∙ each

    pub all_pending : total (size c) (λ p. pending_on_way t (element_at (reply_phase c m) p)) ≡ total (size c) (λ p. pending_on_way t (element_at m p))
    all_pending = total_same (size c) _ _ (λ p h. rw (element-reply_phase c m p h) (delivered_pending t (element_at m p) (delivered c m p)))

    pub all_delivered : total (size c) (λ p. count_option (reply_passes t) (delivered c m p)) ≡ total (size c) (λ y. leaving 0 y)
    all_delivered = total_shuffled c.stages range.some_stages range.most_stages (λ y. leaving 0 y)

    -- a message less for each delivery
    pub on_way-reply_phase : on_way t c (reply_phase c m) + total (size c) (λ p. count_option (reply_passes t) (delivered c m p)) ≡ on_way t c m
    on_way-reply_phase = omega (arith, all_arriving, all_leaving, all_lanes, all_queues, all_modules, all_pending, all_delivered)

  -- ---- a delivered cell is open
  -- the open cells counted by the test for one reference are those of the one processing element
  pub opened_once : (p a : ℕ) → p < size c → all_opened (is_reference p a) c m ≡ count (λ (o : OpenCell). o.cell == a) (element_at m p).interface.opened
  opened_once p a h =
      total_only (size c) (λ q. opened_by (is_reference p a) q (element_at m q)) p h (λ q l apart. rw (other q p apart) (none_false (element_at m q).interface.opened))
      ∙ rw (itself p) refl

  module _ (w : IsRouted c m) (b : IsBalanced c m) where
    pub delivered_open : (p : ℕ) → p < size c → IfSome (delivered c m p) (λ r. (r.pe ≡ p) × (1 ≤ count (λ (o : OpenCell). o.cell == r.cell) (element_at m p).interface.opened))
    delivered_open p h =
        let y = shuffled c.stages p in
        some_known (λ (r : ReplyMessage). IsReference c r.pe r.cell × (r.pe ≡ p)) (λ (r : ReplyMessage). (r.pe ≡ p) × (1 ≤ count (λ (o : OpenCell). o.cell == r.cell) (element_at m p).interface.opened)) (delivered c m p)
        (delivered_well c range m w p h)
        (λ r e k.
        let t = is_reference p r.cell in
        let some = range.some_stages in
        let passed : t r.pe r.cell ≡ true = rw (k.1, itself p, itself r.cell) refl in
        let head = head_counted (reply_passes t) (replies_at m 0 y) r e passed in
        let there = table_term c.stages (size c) (λ s y. replies_on_way t (replies_at m s y)) 0 y (omega arith) (turns_back c range p h).entry_small in
        let even = b.balanced t in
        let once = opened_once p r.cell h in
        (k.1, omega (arith, head, there, even, once)))

    pub all_closed : (t : ℕ → ℕ → Bool) → all_opened t c (reply_phase c m) + total (size c) (λ p. count_option (reply_passes t) (delivered c m p)) ≡ all_opened t c m
    all_closed t =
        let after = total_plus (size c) (λ p. opened_by t p (element_at (reply_phase c m) p)) (λ p. count_option (reply_passes t) (delivered c m p)) in
        let each : total (size c) (λ p. opened_by t p (element_at (reply_phase c m) p) + count_option (reply_passes t) (delivered c m p)) ≡ all_opened t c m =
        total_same (size c) _ _ (λ p h. rw (element-reply_phase c m p h) (delivered_opened t p (element_at m p) (delivered c m p) (delivered_open p h))) in
        sym after ∙ each

    -- ---- different cells
    closed_step : (t : OpenCell → Bool) (o : OpenCell) (os us : List OpenCell) (b : Bool) → count t us ≤ count t os → count t (elim b [ true ↦ os | false ↦ o ∷ us ]) ≤ weight (t o) + count t os
    closed_step t o os us true h = omega arith
    closed_step t o os us false h = omega (arith, h)

    closed_fewer : (t : OpenCell → Bool) (a : ℕ) (os : List OpenCell) → count t (closed a os) ≤ count t os
    closed_fewer t a [] = omega arith
    closed_fewer t a (o ∷ os) = closed_step t o os (closed a os) (o.cell == a) (closed_fewer t a os)

    delivered_fewer : (t : OpenCell → Bool) (e : Element) (o : Option ReplyMessage) → count t (deliver e o).interface.opened ≤ count t e.interface.opened
    delivered_fewer t e None = omega arith
    delivered_fewer t e (Some r) = closed_fewer t r.cell e.interface.opened

    pub balanced-reply_phase : IsBalanced c (reply_phase c m)
    balanced-reply_phase = record {
      balanced = λ t. omega (arith, on_way-reply_phase t, all_closed t, b.balanced t);
      different = λ p h a. rw (element-reply_phase c m p h) (omega (arith, b.different p h a, delivered_fewer (λ (o : OpenCell). o.cell == a) (element_at m p) (delivered c m p)));
    }
