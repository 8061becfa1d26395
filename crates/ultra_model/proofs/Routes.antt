-- every phase keeps every message on its route
use Rattle.std.proofs.Common.{◌≡◌, ℕ, ◌+◌, ◌-◌, ◌*◌, ◌/◌, ◌%◌, ◌<◌, ◌≤◌, List, [], ◌∷◌, false, refl, arith, sym, ◌∙◌, ap, subst}
use Rattle.std.specs.Prelude.{Option, Some, None, IfSome, slice_get, ◌==◌}
use Rattle.std.specs.List.{AllByRecursion}
use Rattle.std.proofs.lemmas.{Nat.{pow_pos, div_below}, Bool.{eqb-true, Decides.nat_tests}}
use Rattle.ultra_msg.specs.declared.{Request.Request, ReplyMessage.ReplyMessage}
use Rattle.ultra_route.specs.Route.{shuffled, unshuffled, line_of}
use Rattle.ultra_route.proofs.Table.{turn, Turn, back, Back, ends, sizes}
use Rattle.ultra_switch.specs.{declared.QueueEntry.QueueEntry, Queues.request_of}
use Rattle.ultra_mem.specs.{declared.Placed.Placed, Serve.{ModuleState, after_serving, serve}}
use Rattle.ultra_pni.specs.{declared.OpenCell.OpenCell, Interface.Interface}
use Rattle.ultra_isa.specs.declared.Instr.{Instr}
use Rattle.ultra_isa.proofs.Steps.{SendsInto, step_is}
use Rattle.ultra_model.specs.Machine.{Settings, Machine, Element, size, last_stage, site, start, lane_at, replies_at, module_at, element_at, reply_exit, request_exit}
use Rattle.ultra_model.specs.Phases.{deliver, delivered, without_reply, replies_made, arriving_reply, reply_before, has_reply_room, leaving_reply, replies_at_exit, next_replies, reply_phase, memory_phase, has_request_room, request_before, admitted, arriving_request, entering, with_request, requests_by, arrivals, lane_after_leaving, leaving_request, next_lane, request_phase, step_at, processor_phase}
use Rattle.ultra_model.specs.Ranges.{AreInRange}
use Rattle.ultra_model.specs.Routed.{IsReference, module_of, IsByLine, IsByEntry, IsAtModule, IsEntryAt, IsRecordAt, IsReplyAt, IsPlacedAt, IsReplyOf, IsOwn, IsRouted}
use Rattle.ultra_model.proofs.Each.{each-append, each-after_leaving, each-first, some-weaker, if_tested}
use Rattle.ultra_model.proofs.OnRoute.{each-filter, each-closed, some-request, Requests, Replies, arrive_all_well, records_left_well, replies_made_well}
use Rattle.ultra_model.proofs.AtPlaces.{lane-start, replies-start, memory_module-start, element-start, lane-reply_phase, replies-reply_phase, memory_module-reply_phase, element-reply_phase, memory_module-memory_phase, lane-request_phase, memory_module-request_phase, element-request_phase, element-processor_phase}

not_zero : (s : ℕ) → (s == 0) ≡ false → 1 ≤ s
not_zero s h = grind (arith, nat_tests)

not_equal : (s n : ℕ) → (s == n) ≡ false → s < n + 1 → s < n
not_equal s n h l = grind (arith, nat_tests)

module _ (c : Settings) (range : AreInRange c) where
  -- ---- the routes of one reference
  pub module_small : (a : ℕ) → module_of c a < size c
  module_small a = omega (arith, pow_pos c.stages)

  pub route : (s p a : ℕ) → s < c.stages → p < size c → Turn c.stages s p (module_of c a)
  route s p a hs hp = turn c.stages s p (module_of c a) range.some_stages range.most_stages hs hp (module_small a)

  pub route_ends : (p a : ℕ) → p < size c → (line_of c.stages 0 p (module_of c a) ≡ p) × (line_of c.stages c.stages p (module_of c a) ≡ module_of c a)
  route_ends p a hp = ends c.stages p (module_of c a) range.some_stages range.most_stages hp (module_small a)

  pub turns_back : (y : ℕ) → y < size c → Back c.stages y
  turns_back y h = back c.stages y range.some_stages range.most_stages h

  pub two_ports : (x : ℕ) → x < size c → (2 * (x / 2) < size c) × (2 * (x / 2) + 1 < size c)
  two_ports x h = let k = (sizes c.stages range.some_stages range.most_stages).0 in (omega arith, omega arith)

  -- at the last stage the line is the module
  last_is : (s : ℕ) → s ≡ last_stage c → s + 1 ≡ c.stages
  last_is s e = let some = range.some_stages in omega arith

  line-at_last : (s x p a : ℕ) → s ≡ last_stage c → IsByLine c s x p a → IsAtModule c x p a
  line-at_last s x p a e w =
      let ends_at = (route_ends p a w.reference.element).1 in
      let here : line_of c.stages (s + 1) p (module_of c a) ≡ line_of c.stages c.stages p (module_of c a) = ap (λ n. line_of c.stages n p (module_of c a)) (last_is s e) in
      record { reference = w.reference; home = sym ends_at ∙ (sym here ∙ w.line) }

  module-at_last : (s x p a : ℕ) → s ≡ last_stage c → IsAtModule c x p a → IsByLine c s x p a
  module-at_last s x p a e w =
      let ends_at = (route_ends p a w.reference.element).1 in
      let here : line_of c.stages (s + 1) p (module_of c a) ≡ line_of c.stages c.stages p (module_of c a) = ap (λ n. line_of c.stages n p (module_of c a)) (last_is s e) in
      record { reference = w.reference; line = here ∙ (ends_at ∙ w.home) }

  -- a line goes on by the entry that it is shuffled to, and comes from there
  entry-from_line : (s x y p a : ℕ) → x ≡ unshuffled c.stages y → y < size c → IsByLine c s x p a → IsByEntry c (s + 1) y p a
  entry-from_line s x y p a e hy w = record { reference = w.reference; entry = rw (w.line, e) (turns_back y hy).forth }

  line-from_entry : (s x p a : ℕ) → s + 1 < c.stages → x < size c → IsByEntry c (s + 1) (shuffled c.stages x) p a → IsByLine c s x p a
  line-from_entry s x p a hs hx w =
      let home = (route (s + 1) p a hs w.reference.element).home in
      record { reference = w.reference; line = sym home ∙ rw w.entry (turns_back x hx).back }

  -- a request turns at a stage by a bit of its module, a reply by one of its processing element
  line-by_exit : (s y : ℕ) (r : Request) → s < c.stages → IsByEntry c s y r.pe r.cell → IsByLine c s (request_exit c s y r) r.pe r.cell
  line-by_exit s y r hs w =
      let forth = (route s r.pe r.cell hs w.reference.element).forth in
      record { reference = w.reference; line = rw w.entry at (sym forth) }

  entry-by_exit : (s x : ℕ) (r : ReplyMessage) → s < c.stages → IsByLine c s x r.pe r.cell → IsByEntry c s (reply_exit c s x r) r.pe r.cell
  entry-by_exit s x r hs w =
      let back = (route s r.pe r.cell hs w.reference.element).back in
      record { reference = w.reference; entry = rw w.line at (sym back) }

  module _ (m : Machine) (w : IsRouted c m) where
    -- ---- replies
    before_reply : (s x : ℕ) → s < c.stages → x < size c → IfSome (reply_before c m s x) (λ r. IsByLine c s x r.pe r.cell)
    before_reply s x hs hx =
        if_tested (s == last_stage c) (λ o. IfSome o (λ (r : ReplyMessage). IsByLine c s x r.pe r.cell)) _ _
        (λ z. some-weaker (IsReplyOf c x) (λ (r : ReplyMessage). IsByLine c s x r.pe r.cell) (module_at m x).out (λ r k. module-at_last s x r.pe r.cell (eqb-true s (last_stage c) z) k) (w.outputs x hx))
        (λ z. let some = range.some_stages in
        let less : s < last_stage c = not_equal s (last_stage c) z (omega arith) in
        let next : s + 1 < c.stages = omega arith in
        let y = shuffled c.stages x in
        some-weaker (IsReplyAt c (s + 1) y) (λ (r : ReplyMessage). IsByLine c s x r.pe r.cell) (slice_get (replies_at m (s + 1) y) 0)
        (λ r k. line-from_entry s x r.pe r.cell next hx k)
        (each-first (IsReplyAt c (s + 1) y) (replies_at m (s + 1) y) (w.replies (s + 1) y next (turns_back x hx).entry_small)))

    -- a reply that comes to a position is of a reference whose line goes there
    pub arriving_reply_well : (s x : ℕ) → s < c.stages → x < size c → IfSome (arriving_reply c m s x) (λ r. IsByLine c s x r.pe r.cell)
    unfolding arriving_reply
    arriving_reply_well s x hs hx =
        if_tested (has_reply_room c m s (x / 2)) (λ o. IfSome o (λ (r : ReplyMessage). IsByLine c s x r.pe r.cell)) (reply_before c m s x) None (λ z. before_reply s x hs hx) (λ z. tt)

    -- so is each reply that comes of it: it leaves by its entry, a port of the same switch
    pub replies_made_at : (s x : ℕ) → s < c.stages → x < size c → Replies (IsByLine c s x) (replies_made (lane_at m s x).records (arriving_reply c m s x))
    replies_made_at s x hs hx = replies_made_well (IsByLine c s x) (lane_at m s x).records (arriving_reply c m s x) (w.records s x hs hx) (arriving_reply_well s x hs hx)

    exit_well : (s x y : ℕ) → s < c.stages → x < size c → AllByRecursion (IsReplyAt c s y) (replies_at_exit c m s x y)
    exit_well s x y hs hx =
        each-filter (λ (r : ReplyMessage). IsByLine c s x r.pe r.cell) (IsReplyAt c s y) (λ r. reply_exit c s x r == y) (replies_made (lane_at m s x).records (arriving_reply c m s x))
        (λ r k z. subst (λ (n : ℕ). IsByEntry c s n r.pe r.cell) (eqb-true (reply_exit c s x r) y z) (entry-by_exit s x r hs k))
        (replies_made_at s x hs hx)

    next_replies_well : (s y : ℕ) → s < c.stages → y < size c → AllByRecursion (IsReplyAt c s y) (next_replies c m s y)
    next_replies_well s y hs hy =
        let ports = two_ports y hy in
        each-append (IsReplyAt c s y) _ _
        (each-append (IsReplyAt c s y) _ _ (each-after_leaving (IsReplyAt c s y) (leaving_reply c m s y) (replies_at m s y) (w.replies s y hs hy)) (exit_well s (2 * (y / 2)) y hs ports.0))
        (exit_well s (2 * (y / 2) + 1) y hs ports.1)

    -- a reply that is delivered comes to its own processing element
    pub delivered_well : (p : ℕ) → p < size c → IfSome (delivered c m p) (λ r. IsReference c r.pe r.cell × (r.pe ≡ p))
    delivered_well p h =
        let y = shuffled c.stages p in
        let some = range.some_stages in
        some-weaker (IsReplyAt c 0 y) (λ (r : ReplyMessage). IsReference c r.pe r.cell × (r.pe ≡ p)) (slice_get (replies_at m 0 y) 0)
        (λ r k. let home = (route 0 r.pe r.cell (omega arith) k.reference.element).home in
        let line = (route_ends r.pe r.cell k.reference.element).0 in
        (k.reference, sym line ∙ (sym home ∙ rw k.entry (turns_back p h).back)))
        (each-first (IsReplyAt c 0 y) (replies_at m 0 y) (w.replies 0 y (omega arith) (turns_back p h).entry_small))

    -- ---- requests
    before_request : (s y : ℕ) → s < c.stages → y < size c → IfSome (request_before c m s y) (λ r. IsByEntry c s y r.pe r.cell)
    before_request s y hs hy =
        let x = unshuffled c.stages y in
        let b = turns_back y hy in
        if_tested (s == 0) (λ o. IfSome o (λ (r : Request). IsByEntry c s y r.pe r.cell)) _ _
        (λ z. let zero_is : s ≡ 0 = eqb-true s 0 z in
        some-weaker (IsOwn c x) (λ (r : Request). IsByEntry c s y r.pe r.cell) (slice_get (element_at m x).interface.pending 0)
        (λ r k. let small : r.pe < size c = rw k.0 b.line_small in
        record { reference = record { element = small; cell = k.1 }; entry = rw (zero_is, (route_ends r.pe r.cell small).0, k.0) b.forth })
        (each-first (IsOwn c x) (element_at m x).interface.pending (w.pending x b.line_small)))
        (λ z. let one : 1 ≤ s = not_zero s z in
        let same : s - 1 + 1 ≡ s = omega arith in
        some-request (λ (r : Request). IsByEntry c s y r.pe r.cell) (slice_get (lane_at m (s - 1) x).queue 0)
        (some-weaker (IsEntryAt c (s - 1) x) (λ (e : QueueEntry). IsByEntry c s y e.request.pe e.request.cell) (slice_get (lane_at m (s - 1) x).queue 0)
        (λ e k. subst (λ (n : ℕ). IsByEntry c n y e.request.pe e.request.cell) same (entry-from_line (s - 1) x y e.request.pe e.request.cell refl hy k))
        (each-first (IsEntryAt c (s - 1) x) (lane_at m (s - 1) x).queue (w.requests (s - 1) x (omega arith) b.line_small))))

    admitted_well : (s y : ℕ) (o : Option Request) → IfSome o (λ r. IsByEntry c s y r.pe r.cell) → IfSome (admitted c m s y o) (λ r. IsByEntry c s y r.pe r.cell)
    admitted_well s y None h = tt
    admitted_well s y (Some r) h = if_tested (has_request_room c m s (request_exit c s y r)) (λ o. IfSome o (λ (r : Request). IsByEntry c s y r.pe r.cell)) (Some r) None (λ z. h) (λ z. tt)

    -- a request that comes to a position is of a reference whose route enters there
    pub arriving_request_well : (s y : ℕ) → s < c.stages → y < size c → IfSome (arriving_request c m s y) (λ r. IsByEntry c s y r.pe r.cell)
    unfolding arriving_request
    arriving_request_well s y hs hy = admitted_well s y (request_before c m s y) (before_request s y hs hy)

    by_well : (s y x : ℕ) (o : Option Request) → s < c.stages → IfSome o (λ r. IsByEntry c s y r.pe r.cell) → Requests (IsByLine c s x) (requests_by c s y x o)
    by_well s y x None hs h = tt
    by_well s y x (Some r) hs h =
        if_tested (request_exit c s y r == x) (λ rs. Requests (IsByLine c s x) rs) (r ∷ []) []
        (λ z. (subst (λ (n : ℕ). IsByLine c s n r.pe r.cell) (eqb-true (request_exit c s y r) x z) (line-by_exit s y r hs h), tt))
        (λ z. tt)

    -- each request that arrives at a position is of a reference whose line goes there
    pub arrivals_well : (s x : ℕ) → s < c.stages → x < size c → Requests (IsByLine c s x) (arrivals c m s x)
    arrivals_well s x hs hx =
        let ports = two_ports x hx in
        let zero = by_well s (2 * (x / 2)) x (arriving_request c m s (2 * (x / 2))) hs (arriving_request_well s (2 * (x / 2)) hs ports.0) in
        let one = by_well s (2 * (x / 2) + 1) x (arriving_request c m s (2 * (x / 2) + 1)) hs (arriving_request_well s (2 * (x / 2) + 1) hs ports.1) in
        if_tested (m.cycles % 2 == 0) (λ rs. Requests (IsByLine c s x) rs) _ _ (λ z. each-append _ _ _ zero one) (λ z. each-append _ _ _ one zero)

    pub lane_well : (s x : ℕ) → s < c.stages → x < size c → AllByRecursion (IsEntryAt c s x) (next_lane c m s x).queue × AllByRecursion (IsRecordAt c s x) (next_lane c m s x).records
    lane_well s x hs hx =
        arrive_all_well (IsByLine c s x) c.wait_places (lane_after_leaving c m s x) (arrivals c m s x)
        (each-after_leaving (IsEntryAt c s x) (leaving_request c m s x) (lane_at m s x).queue (w.requests s x hs hx)) (w.records s x hs hx) (arrivals_well s x hs hx)

    -- a request that enters a module is for one of its cells
    head_at : (k : ℕ) → k < size c → IfSome (request_of (slice_get (lane_at m (last_stage c) k).queue 0)) (λ r. IsAtModule c k r.pe r.cell)
    head_at k h =
        let some = range.some_stages in
        some-request (λ (r : Request). IsAtModule c k r.pe r.cell) (slice_get (lane_at m (last_stage c) k).queue 0)
        (some-weaker (IsEntryAt c (last_stage c) k) (λ (e : QueueEntry). IsAtModule c k e.request.pe e.request.cell) (slice_get (lane_at m (last_stage c) k).queue 0)
        (λ e l. line-at_last (last_stage c) k e.request.pe e.request.cell refl l)
        (each-first (IsEntryAt c (last_stage c) k) (lane_at m (last_stage c) k).queue (w.requests (last_stage c) k (omega arith) h)))

    entering_if : (k : ℕ) (i : Option Placed) (o : Option Request) → IfSome o (λ r. IsAtModule c k r.pe r.cell) → IfSome (elim i [ None ↦ o | Some p ↦ None ]) (λ r. IsAtModule c k r.pe r.cell)
    entering_if k None o h = h
    entering_if k (Some p) o h = tt

    pub entering_well : (k : ℕ) → k < size c → IfSome (entering c m k) (λ r. IsAtModule c k r.pe r.cell)
    entering_well k h = entering_if k (module_at m k).inp (request_of (slice_get (lane_at m (last_stage c) k).queue 0)) (head_at k h)

  -- ---- units
  offset_within : (k p a : ℕ) → IsAtModule c k p a → a / size c < c.cells
  offset_within k p a w =
      let cell = w.reference.cell in
      let some = pow_pos c.stages in
      div_below a (size c) c.cells some (omega (arith, cell))

  -- its offset is below the number of cells
  pub placed_within : (k : ℕ) (p : Placed) → IsPlacedAt c k p → p.offset < c.cells
  placed_within k p w = rw w.1 (offset_within k p.request.pe p.request.cell w.0)

  with_request_well : (k : ℕ) (b : ModuleState) (o : Option Request) → IfSome b.inp (IsPlacedAt c k) → IfSome o (λ r. IsAtModule c k r.pe r.cell) → IfSome (with_request c b o).inp (IsPlacedAt c k)
  with_request_well k b None h g = h
  with_request_well k b (Some r) h g = (g, refl)

  with_request_output : (k : ℕ) (b : ModuleState) (o : Option Request) → IfSome b.out (IsReplyOf c k) → IfSome (with_request c b o).out (IsReplyOf c k)
  with_request_output k b None h = h
  with_request_output k b (Some r) h = h

  without_reply_input : (k : ℕ) (b : ModuleState) (o : Option ReplyMessage) → IfSome b.inp (IsPlacedAt c k) → IfSome (without_reply b o).inp (IsPlacedAt c k)
  without_reply_input k b None h = h
  without_reply_input k b (Some r) h = h

  without_reply_output : (k : ℕ) (b : ModuleState) (o : Option ReplyMessage) → IfSome b.out (IsReplyOf c k) → IfSome (without_reply b o).out (IsReplyOf c k)
  without_reply_output k b None h = h
  without_reply_output k b (Some r) h = tt

  served_well : (k : ℕ) (b : ModuleState) (i : Option Placed) (o : Option ReplyMessage) → b.inp ≡ i → b.out ≡ o → IfSome i (IsPlacedAt c k) → IfSome o (IsReplyOf c k)
      → let s = after_serving b (elim o [ None ↦ i | Some r ↦ None ]) in IfSome s.inp (IsPlacedAt c k) × IfSome s.out (IsReplyOf c k)
  served_well k b i (Some r) e f h g = (rw e h, rw f g)
  served_well k b None None e f h g = (rw e tt, rw f tt)
  served_well k b (Some p) None e f h g = (tt, h.0)

  serve_well : (k : ℕ) (b : ModuleState) → IfSome b.inp (IsPlacedAt c k) → IfSome b.out (IsReplyOf c k) → IfSome (serve b).inp (IsPlacedAt c k) × IfSome (serve b).out (IsReplyOf c k)
  serve_well k b h g = served_well k b b.inp b.out refl refl h g

  abbrev Within : OpenCell → Type 0
  Within o = o.cell < size c * c.cells

  deliver_pending : (p : ℕ) (e : Element) (o : Option ReplyMessage) → AllByRecursion (IsOwn c p) e.interface.pending → AllByRecursion (IsOwn c p) (deliver e o).interface.pending
  deliver_pending p e None h = h
  deliver_pending p e (Some r) h = h

  deliver_opened : (e : Element) (o : Option ReplyMessage) → AllByRecursion Within e.interface.opened → AllByRecursion Within (deliver e o).interface.opened
  deliver_opened e None h = h
  deliver_opened e (Some r) h = each-closed Within r.cell e.interface.opened h

  sends_pending : (p : ℕ) (i j : Interface) (o : Option Request) → SendsInto (site c p) c.most_open i j o → AllByRecursion (IsOwn c p) i.pending → AllByRecursion (IsOwn c p) j.pending
  sends_pending p i j None e h = rw e h
  sends_pending p i j (Some r) k h = rw k.4.1 (each-append (IsOwn c p) i.pending (r ∷ []) h ((k.0, k.1), tt))

  sends_opened : (p : ℕ) (i j : Interface) (o : Option Request) → SendsInto (site c p) c.most_open i j o → AllByRecursion Within i.opened → AllByRecursion Within j.opened
  sends_opened p i j None e h = rw e h
  sends_opened p i j (Some r) k h = rw k.4.1 (each-append Within i.opened (record { cell = r.cell; target = k.4.0 } ∷ []) h (k.1, tt))

  -- ---- the phases
  pub routed-start : IsRouted c (start c)
  routed-start = record {
    requests = λ s x hs hx. rw (lane-start c s x hs hx) tt;
    records = λ s x hs hx. rw (lane-start c s x hs hx) tt;
    replies = λ s y hs hy. rw (replies-start c s y hs hy) tt;
    inputs = λ k h. rw (memory_module-start c k h) tt;
    outputs = λ k h. rw (memory_module-start c k h) tt;
    pending = λ p h. rw (element-start c p h) tt;
    opened = λ p h. rw (element-start c p h) tt;
  }

  pub routed-reply_phase : (m : Machine) → IsRouted c m → IsRouted c (reply_phase c m)
  routed-reply_phase m w = record {
    requests = λ s x hs hx. rw (lane-reply_phase c m s x hs hx) (w.requests s x hs hx);
    records = λ s x hs hx. rw (lane-reply_phase c m s x hs hx) (records_left_well (IsByLine c s x) (lane_at m s x).records (arriving_reply c m s x) (w.records s x hs hx));
    replies = λ s y hs hy. rw (replies-reply_phase c m s y hs hy) (next_replies_well m w s y hs hy);
    inputs = λ k h. rw (memory_module-reply_phase c m k h) (without_reply_input k (module_at m k) (arriving_reply c m (last_stage c) k) (w.inputs k h));
    outputs = λ k h. rw (memory_module-reply_phase c m k h) (without_reply_output k (module_at m k) (arriving_reply c m (last_stage c) k) (w.outputs k h));
    pending = λ p h. rw (element-reply_phase c m p h) (deliver_pending p (element_at m p) (delivered c m p) (w.pending p h));
    opened = λ p h. rw (element-reply_phase c m p h) (deliver_opened (element_at m p) (delivered c m p) (w.opened p h));
  }

  pub routed-memory_phase : (m : Machine) → IsRouted c m → IsRouted c (memory_phase c m)
  unfolding memory_phase
  routed-memory_phase m w = record {
    requests = w.requests;
    records = w.records;
    replies = w.replies;
    inputs = λ k h. rw (memory_module-memory_phase c m k h) (serve_well k (module_at m k) (w.inputs k h) (w.outputs k h)).0;
    outputs = λ k h. rw (memory_module-memory_phase c m k h) (serve_well k (module_at m k) (w.inputs k h) (w.outputs k h)).1;
    pending = w.pending;
    opened = w.opened;
  }

  pub routed-request_phase : (m : Machine) → IsRouted c m → IsRouted c (request_phase c m)
  unfolding request_phase
  routed-request_phase m w = record {
    requests = λ s x hs hx. rw (lane-request_phase c m s x hs hx) (lane_well m w s x hs hx).0;
    records = λ s x hs hx. rw (lane-request_phase c m s x hs hx) (lane_well m w s x hs hx).1;
    replies = w.replies;
    inputs = λ k h. rw (memory_module-request_phase c m k h) (with_request_well k (module_at m k) (entering c m k) (w.inputs k h) (entering_well m w k h));
    outputs = λ k h. rw (memory_module-request_phase c m k h) (with_request_output k (module_at m k) (entering c m k) (w.outputs k h));
    pending = λ p h. rw (element-request_phase c m p h) (each-after_leaving (IsOwn c p) (arriving_request c m 0 (shuffled c.stages p)) (element_at m p).interface.pending (w.pending p h));
    opened = λ p h. rw (element-request_phase c m p h) (w.opened p h);
  }

  pub routed-processor_phase : (program : List Instr) (m : Machine) → IsRouted c m → IsRouted c (processor_phase c program m)
  unfolding processor_phase
  routed-processor_phase program m w =
      let sends = λ (p : ℕ). (step_is (site c p) c.most_open (element_at m p).interface program (element_at m p).core).into in
      record {
        requests = w.requests;
        records = w.records;
        replies = w.replies;
        inputs = w.inputs;
        outputs = w.outputs;
        pending = λ p h. rw (element-processor_phase c program m p h) (sends_pending p (element_at m p).interface (step_at c program m p).interface (step_at c program m p).sent (sends p) (w.pending p h));
        opened = λ p h. rw (element-processor_phase c program m p h) (sends_opened p (element_at m p).interface (step_at c program m p).interface (step_at c program m p).sent (sends p) (w.opened p h));
      }
