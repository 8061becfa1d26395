-- the request phase keeps what the messages say: two requests that combine make the pair of their trees
use Rattle.std.proofs.Common.{◌≡◌, ℕ, suc, ◌+◌, ◌-◌, ◌*◌, ◌/◌, ◌%◌, ◌<◌, ◌≤◌, List, [], ◌∷◌, Bool, true, false, refl, arith, sym, ◌∙◌, ap, subst, ⊎_elim, inl, inr}
use Rattle.std.specs.Prelude.{Option, Some, None, IfSome, slice_get, ◌==◌}
use Rattle.std.specs.List.{AllByRecursion}
use Rattle.std.proofs.lemmas.Bool.{cases_lt, Decides.nat_tests}
use Rattle.ultra_msg.specs.{declared.{Request.Request, ReplyMessage.ReplyMessage, Event.{Event, TheVariants.Combined}}, Pair.pair_of}
use Rattle.ultra_route.specs.Route.{shuffled, unshuffled}
use Rattle.ultra_switch.specs.{declared.{QueueEntry.QueueEntry, WaitRecord.WaitRecord}, Arrive.{Lane, wait_record, combined_entry}, Queues.request_of}
use Rattle.ultra_mem.specs.{declared.Placed.Placed, Serve.ModuleState}
use Rattle.ultra_model.specs.{Places.{table, joined}, Ranges.AreInRange}
use Rattle.ultra_model.specs.Machine.{Settings, Machine, size, last_stage, lane_at, replies_at, module_at, element_at, request_exit}
use Rattle.ultra_model.specs.Phases.{combinations, has_request_room, request_before, admitted, arriving_request, entering, with_request, leaving_request, requests_by, arrivals, lane_after_leaving, next_lane, request_phase}
use Rattle.ultra_model.specs.Routed.{IsEntryAt, IsRecordAt, IsReplyAt, IsPlacedAt, IsReplyOf, IsOwn, IsRouted}
use Rattle.ultra_model.specs.Balance.{count, total, passes, reply_passes, entry_passes, record_passes, lane_on_way, replies_on_way, module_on_way, pending_on_way, on_way, IsBalanced}
use Rattle.ultra_model.proofs.{Each.{each-append, each-after_leaving, each-first, if_tested}, OnRoute.some-request, Sums.{total_next, total_term, table_same, table_plus, table_term}, Counting.{is_reference, arrive_all_way}, ReplyBalance.opened_once, Routes.{routed-request_phase, turns_back, two_ports}, AtPlaces.{lane-request_phase, memory_module-request_phase, element-request_phase}}
use Rattle.ultra_model.proofs.RequestBalance as requests
use Rattle.ultra_serial_law.specs.{Tree.{pair, Kept}, Log.LoggedIssue, Legal.Entry as Done}
use Rattle.ultra_serial_law.proofs.{Series.sent, ReplyForest.{each_and, some_and}}
use Rattle.ultra_serial_law.proofs.Tidy.{old_records, is_marked, marked_in, lanes_of, IsTidy, that_is, arrive_all_marks, tidy-request_phase}
use Rattle.ultra_serial_law.proofs.Forest.{find_record, record_at, position_of, built, built_next, built_clear, grown, same_built, found_record, found_partner}
use Rattle.ultra_serial_law.proofs.Standing.{each_in, some_in, total_both, marked_within, marked_lanes, IsBelow, below_lane, below_stage, below_pending, once, clear, position_small}
use Rattle.ultra_serial_law.proofs.Explained.{IsIn, IsExplained, bound, IsKept, IsKeptAt, IsAnswered, IsGiven, IsForest}
use Rattle.ultra_serial_law.proofs.Mentions.{mention, mentions, sum-table, in-table, trees_noted, unmentioned, combined_tree}
use Rattle.ultra_serial_law.proofs.LaneForest.{unmarked_in, is_unmarked, marked_unmarked, lane_mentions, same_find, find_unique, in_counts, HadCombined, IsSaid, lane_said, lane_given}

not_zero : (s : ℕ) → (s == 0) ≡ false → 1 ≤ s
not_zero s h = grind (arith, nat_tests)

pub in_holds : {X : Type 0} (P : X → Type 0) (x : X) (xs : List X) → AllByRecursion P xs → IsIn x xs → P x
in_holds P x [] h k = absurd k
in_holds P x (z ∷ xs) h (inl e) = subst P e h.0
in_holds P x (z ∷ xs) h (inr k) = in_holds P x xs h.1 k

module _ (c : Settings) (range : AreInRange c) (m : Machine) (w : IsRouted c m) (b : IsBalanced c m) (y : IsTidy c m) where
  abbrev after : Machine
  after = request_phase c m

  -- the combinations at a place, and all of them
  abbrev combined_at : ℕ → ℕ → List Event
  combined_at s x = combinations c.wait_places s x (lane_after_leaving c m s x) (arrivals c m s x)

  abbrev pub all_combined : List Event
  all_combined = joined (joined (table c.stages (size c) (λ s x. combined_at s x)))

  routed : IsRouted c after
  routed = routed-request_phase c range m w

  even : IsBalanced c after
  even = requests.balanced-request_phase c range m b

  tidy : IsTidy c after
  tidy = tidy-request_phase c range m y

  -- ---- how often a reference is named
  module _ (t : ℕ → ℕ → Bool) where
    -- what a lane holds of it that has no part in a combination
    abbrev idle : ℕ → ℕ → ℕ
    idle s x = unmarked_in t (next_lane c m s x).queue + marked_in t (lane_after_leaving c m s x).queue + count (record_passes t) (lane_at m s x).records

    lane_parts : (s x : ℕ) → s < c.stages → x < size c → mentions t (combined_at s x) + idle s x ≡ lane_on_way t (lane_at after s x)
    lane_parts s x hs hx =
        let l = lane_after_leaving c m s x in
        let named = lane_mentions t c.wait_places s x l (arrivals c m s x) in
        let way = arrive_all_way t c.wait_places l (arrivals c m s x) in
        let parts = marked_unmarked t l.queue in
        rw (lane-request_phase c m s x hs hx) (omega (arith, named, way, parts))

    pub all_parts : mentions t all_combined + total c.stages (λ s. total (size c) (λ x. idle s x)) ≡ total c.stages (λ s. lanes_of t c after s)
    all_parts =
        let sum = sum-table (λ e. mention t e) c.stages (size c) (λ s x. combined_at s x) in
        let both = table_plus c.stages (size c) (λ s x. mentions t (combined_at s x)) idle in
        let each = table_same c.stages (size c) (λ s x. mentions t (combined_at s x) + idle s x) (λ s x. lane_on_way t (lane_at after s x)) lane_parts in
        omega (arith, sum, both, each)

    none_named : (s x : ℕ) → s < c.stages → x < size c → total c.stages (λ s. lanes_of t c after s) ≤ 1 → 1 ≤ idle s x → mentions t all_combined ≤ 0
    none_named s x hs hx one l = omega (arith, all_parts, one, l, table_term c.stages (size c) idle s x hs hx)

  abbrev only : ℕ → ℕ → ℕ → ℕ → Bool
  only p a = is_reference p a

  pub lanes_once : (p a : ℕ) → p < size c → total c.stages (λ s. lanes_of (only p a) c after s) ≤ 1
  lanes_once p a hp = omega (arith, once c range after even p a hp)

  lane_there : (p a s x : ℕ) → x < size c → 1 ≤ lane_on_way (only p a) (lane_at after s x) → 1 ≤ lanes_of (only p a) c after s
  lane_there p a s x hx l = omega (arith, l, total_term (size c) (λ z. lane_on_way (only p a) (lane_at after s z)) x hx)

  -- a reference has at most one record at a stage
  few_records : (p a s x : ℕ) → p < size c → s < c.stages → x < size c → old_records (only p a) (lane_at after s x).records ≤ 1
  few_records p a s x hp hs hx =
      let t = only p a in
      let beyond = tidy.beyond p a s x hs hx in
      let next = total_next s (λ j. lanes_of t c after j) in
      omega (arith, beyond, next, marked_lanes c after t s, opened_once c range after p a hp, even.different p hp a)

  -- ---- records that stay as they are
  unchanged : (p a s x : ℕ) → s < c.stages → x < size c → position_of c s p a ≡ x → marked_in (only p a) (next_lane c m s x).queue ≤ marked_in (only p a) (lane_after_leaving c m s x).queue → record_at c m s p a ≡ record_at c after s p a
  unchanged p a s x hs hx e l =
      let marks = arrive_all_marks (only p a) c.wait_places (lane_after_leaving c m s x) (arrivals c m s x) in
      rw (e, lane-request_phase c m s x hs hx) (same_find p a c.wait_places (lane_after_leaving c m s x) (arrivals c m s x) (omega (arith, marks, l)))

  quiet : (p a s : ℕ) → p < size c → s < c.stages → lanes_of (only p a) c after s ≤ 0 → record_at c m s p a ≡ record_at c after s p a
  quiet p a s hp hs l =
      let x = position_of c s p a in
      let small = position_small c range m b s p a hs hp in
      let here = total_term (size c) (λ z. lane_on_way (only p a) (lane_at after s z)) x small in
      let now : lane_on_way (only p a) (next_lane c m s x) ≡ lane_on_way (only p a) (lane_at after s x) = rw (lane-request_phase c m s x hs small) refl in
      unchanged p a s x hs small refl (omega (arith, l, here, now, marked_within (only p a) (next_lane c m s x).queue))

  quiet_apart : (p a s i : ℕ) → p < size c → s < c.stages → i < s → 1 ≤ lanes_of (only p a) c after s → record_at c m i p a ≡ record_at c after i p a
  quiet_apart p a s i hp hs hi l =
      let both = total_both c.stages (λ j. lanes_of (only p a) c after j) s i hs (omega arith) (omega arith) in
      quiet p a i hp (omega arith) (omega (arith, both, lanes_once p a hp, l))

  module _ (is : List LoggedIssue) where
    same_tree : (n p a : ℕ) → n ≤ c.stages → p < size c → ((s : ℕ) → s < n → record_at c m s p a ≡ record_at c after s p a) → built c m is n p a ≡ built c after is n p a
    same_tree n p a hn hp h =
        same_built c m after is is a n p record { issue = refl; records = h }
        (λ s q u l e hq.
        let x = position_of c s q a in
        let small = position_small c range m b s q a (omega arith) hq in
        let route = found_record q a (lane_at after s x).records u e (IsRecordAt c s x) (routed.records s x (omega arith) small) in
        let counts = found_partner q a (lane_at after s x).records u e in (
          route.1.reference.element,
          record { issue = refl; records = λ i k. quiet_apart u.partner a s i route.1.reference.element (omega arith) k (lane_there u.partner a s x small (omega (arith, counts))) },
        ))
        hp

    module _ (ks : List Kept) (list : List Done) (f : IsForest c m ks is list) where
      -- ---- requests on their way to the next place
      raised : (n k : ℕ) (r : Request) → n ≤ k → k ≤ c.stages → r.pe < size c → IsBelow c m (only r.pe r.cell) n → IsKeptAt c m is ks n r → IsKeptAt c m is ks k r
      raised n k r hn hk hp below g =
          let same = built_clear c m is n k r.pe r.cell hn (λ s i j. clear c range m b y r.pe r.cell n s hp below i (omega arith)) in
          record { tree = rw same g.tree; op = rw same g.op }

      pending_raised : (p n : ℕ) → p < size c → n ≤ c.stages → AllByRecursion (IsKeptAt c m is ks n) (element_at m p).interface.pending
      pending_raised p n hp hn =
          each_in (λ (r : Request). IsOwn c p r × IsKeptAt c m is ks 0 r) (IsKeptAt c m is ks n) (element_at m p).interface.pending
          (λ r counts h.
          let one = counts (passes (only r.pe r.cell)) (that_is r.pe r.cell) in
          let there = total_term (size c) (λ q. pending_on_way (only r.pe r.cell) (element_at m q)) p hp in
          raised 0 n r (omega arith) hn (rw h.0.0 hp) (below_pending c m (only r.pe r.cell) (omega (arith, one, there))) h.1)
          (each_and (IsOwn c p) (IsKeptAt c m is ks 0) (element_at m p).interface.pending (w.pending p hp) (f.pending p hp))

      queue_raised_by : (s x n : ℕ) (e : QueueEntry) (marked : Bool) → s < c.stages → x < size c → suc s ≤ n → n ≤ c.stages → e.combined ≡ marked → e.request.pe < size c
          → ((u : QueueEntry → Bool) → u e ≡ true → 1 ≤ count u (lane_at m s x).queue) → IsKeptAt c m is ks (bound s marked) e.request → IsKeptAt c m is ks n e.request
      queue_raised_by s x n e true hs hx low high k hp counts g =
          let t = only e.request.pe e.request.cell in
          let one = counts (entry_passes t) (that_is e.request.pe e.request.cell) in
          let there = total_term (size c) (λ z. lane_on_way t (lane_at m s z)) x hx in
          raised (suc s) n e.request low high hp (below_stage c m t s hs (omega (arith, one, there))) g
      queue_raised_by s x n e false hs hx low high k hp counts g =
          let t = only e.request.pe e.request.cell in
          let passed : is_unmarked t e ≡ true = rw (k, that_is e.request.pe e.request.cell) refl in
          let one = counts (is_unmarked t) passed in
          let parts = marked_unmarked t (lane_at m s x).queue in
          raised s n e.request (omega (arith, low)) high hp (below_lane c m t s x hs hx (omega (arith, one, parts))) g

      queue_raised : (s x n : ℕ) → s < c.stages → x < size c → suc s ≤ n → n ≤ c.stages → AllByRecursion (λ (e : QueueEntry). IsKeptAt c m is ks n e.request) (lane_at m s x).queue
      queue_raised s x n hs hx low high =
          each_in (λ (e : QueueEntry). IsEntryAt c s x e × IsKeptAt c m is ks (bound s e.combined) e.request) (λ (e : QueueEntry). IsKeptAt c m is ks n e.request) (lane_at m s x).queue
          (λ e counts h. queue_raised_by s x n e e.combined hs hx low high refl h.0.reference.element counts h.1)
          (each_and (IsEntryAt c s x) (λ (e : QueueEntry). IsKeptAt c m is ks (bound s e.combined) e.request) (lane_at m s x).queue (w.requests s x hs hx) (f.queued s x hs hx))

      before_kept : (s v : ℕ) → s < c.stages → v < size c → IfSome (request_before c m s v) (IsKeptAt c m is ks s)
      before_kept s v hs hv =
          let x = unshuffled c.stages v in
          let small = (turns_back c range v hv).line_small in
          if_tested (s == 0) (λ o. IfSome o (IsKeptAt c m is ks s)) (slice_get (element_at m x).interface.pending 0) (request_of (slice_get (lane_at m (s - 1) x).queue 0))
          (λ z. each-first (IsKeptAt c m is ks s) (element_at m x).interface.pending (pending_raised x s small (omega (arith, hs))))
          (λ z. let some = not_zero s z in
          some-request (IsKeptAt c m is ks s) (slice_get (lane_at m (s - 1) x).queue 0)
          (each-first (λ (e : QueueEntry). IsKeptAt c m is ks s e.request) (lane_at m (s - 1) x).queue (queue_raised (s - 1) x s (omega arith) small (omega arith) (omega arith))))

      admitted_kept : (s v : ℕ) (o : Option Request) → IfSome o (IsKeptAt c m is ks s) → IfSome (admitted c m s v o) (IsKeptAt c m is ks s)
      admitted_kept s v None h = tt
      admitted_kept s v (Some r) h = if_tested (has_request_room c m s (request_exit c s v r)) (λ o. IfSome o (IsKeptAt c m is ks s)) (Some r) None (λ z. h) (λ z. tt)

      arriving_kept : (s v : ℕ) → s < c.stages → v < size c → IfSome (arriving_request c m s v) (IsKeptAt c m is ks s)
      unfolding arriving_request
      arriving_kept s v hs hv = admitted_kept s v (request_before c m s v) (before_kept s v hs hv)

      by_kept : (s v x : ℕ) (o : Option Request) → IfSome o (IsKeptAt c m is ks s) → AllByRecursion (IsKeptAt c m is ks s) (requests_by c s v x o)
      by_kept s v x None h = tt
      by_kept s v x (Some r) h = if_tested (request_exit c s v r == x) (λ rs. AllByRecursion (IsKeptAt c m is ks s) rs) (r ∷ []) [] (λ z. (h, tt)) (λ z. tt)

      pub arrivals_kept : (s x : ℕ) → s < c.stages → x < size c → AllByRecursion (IsKeptAt c m is ks s) (arrivals c m s x)
      arrivals_kept s x hs hx =
          let ports = two_ports c range x hx in
          let zero = by_kept s (2 * (x / 2)) x (arriving_request c m s (2 * (x / 2))) (arriving_kept s (2 * (x / 2)) hs ports.0) in
          let one = by_kept s (2 * (x / 2) + 1) x (arriving_request c m s (2 * (x / 2) + 1)) (arriving_kept s (2 * (x / 2) + 1) hs ports.1) in
          if_tested (m.cycles % 2 == 0) (λ rs. AllByRecursion (IsKeptAt c m is ks s) rs) _ _ (λ z. each-append _ _ _ zero one) (λ z. each-append _ _ _ one zero)

      entering_kept_if : (i : Option Placed) (o : Option Request) → IfSome o (IsKeptAt c m is ks c.stages) → IfSome (elim i [ None ↦ o | Some p ↦ None ]) (IsKeptAt c m is ks c.stages)
      entering_kept_if None o h = h
      entering_kept_if (Some p) o h = tt

      entering_kept : (k : ℕ) → k < size c → IfSome (entering c m k) (IsKeptAt c m is ks c.stages)
      entering_kept k h =
          let some = range.some_stages in
          entering_kept_if (module_at m k).inp (request_of (slice_get (lane_at m (last_stage c) k).queue 0))
          (some-request (IsKeptAt c m is ks c.stages) (slice_get (lane_at m (last_stage c) k).queue 0)
          (each-first (λ (e : QueueEntry). IsKeptAt c m is ks c.stages e.request) (lane_at m (last_stage c) k).queue (queue_raised (last_stage c) k c.stages (omega arith) h (omega arith) (omega arith))))

      -- ---- one lane
      abbrev Said : ℕ → ℕ → Lane → List Event → QueueEntry → Type 0
      Said s x l es e = IsSaid c m is ks s x (lane_after_leaving c m s x).queue l.records es e

      said_first : (s x : ℕ) (e : QueueEntry) (marked : Bool) → e.combined ≡ marked → ((u : QueueEntry → Bool) → u e ≡ true → 1 ≤ count u (lane_after_leaving c m s x).queue)
          → IsKeptAt c m is ks (bound s marked) e.request → Said s x (lane_after_leaving c m s x) [] e
      said_first s x e true k counts g =
          let t = only e.request.pe e.request.cell in
          let passed : is_marked t e ≡ true = rw (k, that_is e.request.pe e.request.cell) refl in
          inr (inl record { marked = k; kept = g; stood = counts (is_marked t) passed })
      said_first s x e false k counts g = inl record { unmarked = k; kept = g }

      said_left : (s x : ℕ) → s < c.stages → x < size c → AllByRecursion (Said s x (lane_after_leaving c m s x) []) (lane_after_leaving c m s x).queue
      said_left s x hs hx =
          each_in (λ (e : QueueEntry). IsKeptAt c m is ks (bound s e.combined) e.request) (Said s x (lane_after_leaving c m s x) []) (lane_after_leaving c m s x).queue
          (λ e counts h. said_first s x e e.combined refl counts h)
          (each-after_leaving (λ (e : QueueEntry). IsKeptAt c m is ks (bound s e.combined) e.request) (leaving_request c m s x) (lane_at m s x).queue (f.queued s x hs hx))

      said : (s x : ℕ) → s < c.stages → x < size c → AllByRecursion (Said s x (next_lane c m s x) (combined_at s x)) (next_lane c m s x).queue
      said s x hs hx = lane_said c m is ks s x (lane_after_leaving c m s x).queue c.wait_places (lane_after_leaving c m s x) (arrivals c m s x) [] (said_left s x hs hx) (arrivals_kept s x hs hx)

      given : (s x : ℕ) → s < c.stages → x < size c → AllByRecursion (IsGiven c m is s) (next_lane c m s x).records
      given s x hs hx = lane_given c m is ks s x (lane_after_leaving c m s x).queue c.wait_places (lane_after_leaving c m s x) (arrivals c m s x) [] (said_left s x hs hx) (arrivals_kept s x hs hx) (f.records s x hs hx)

      -- ---- all of them
      abbrev pub trees : List Kept
      trees = trees_noted all_combined ks

      kept_same : (n : ℕ) (r : Request) → n ≤ c.stages → r.pe < size c → ((s : ℕ) → s < n → record_at c m s r.pe r.cell ≡ record_at c after s r.pe r.cell) → mentions (only r.pe r.cell) all_combined ≤ 0 → IsKeptAt c m is ks n r → IsKeptAt c after is trees n r
      kept_same n r hn hp h none k =
          let same = same_tree n r.pe r.cell hn hp h in
          record { tree = unmentioned r.pe r.cell all_combined ks none ∙ (k.tree ∙ ap (λ t. Some t) same); op = rw (← same) k.op }

      -- an entry that has not combined
      single_after : (s x : ℕ) (e : QueueEntry) → s < c.stages → x < size c → e.request.pe < size c → 1 ≤ unmarked_in (only e.request.pe e.request.cell) (next_lane c m s x).queue → IsKeptAt c m is ks s e.request → IsKeptAt c after is trees s e.request
      single_after s x e hs hx hp l k =
          let p = e.request.pe in
          let a = e.request.cell in
          let parts = lane_parts (only p a) s x hs hx in
          let there = lane_there p a s x hx (omega (arith, parts, l)) in
          kept_same s e.request (omega (arith, hs)) hp (λ i z. quiet_apart p a s i hp hs z there) (none_named (only p a) s x hs hx (lanes_once p a hp) (omega (arith, l))) k

      -- an entry that had combined before
      marked_after : (s x : ℕ) (e : QueueEntry) → s < c.stages → x < size c → IsEntryAt c s x e → HadCombined c m is ks s x (lane_after_leaving c m s x).queue e → IsKeptAt c after is trees (suc s) e.request
      marked_after s x e hs hx route k =
          let p = e.request.pe in
          let a = e.request.cell in
          let hp = route.reference.element in
          let parts = lane_parts (only p a) s x hs hx in
          let stood = k.stood in
          let there = lane_there p a s x hx (omega (arith, parts, stood)) in
          let once_here = lanes_once p a hp in
          let stage = total_term c.stages (λ j. lanes_of (only p a) c after j) s hs in
          let lane = total_term (size c) (λ z. lane_on_way (only p a) (lane_at after s z)) x hx in
          let now : lane_on_way (only p a) (next_lane c m s x) ≡ lane_on_way (only p a) (lane_at after s x) = rw (lane-request_phase c m s x hs hx) refl in
          let few : marked_in (only p a) (next_lane c m s x).queue ≤ marked_in (only p a) (lane_after_leaving c m s x).queue = omega (arith, once_here, stage, lane, now, stood, marked_within (only p a) (next_lane c m s x).queue) in
          kept_same (suc s) e.request (omega (arith, hs)) hp
          (λ i z. ⊎_elim (λ l. quiet_apart p a s i hp hs l there) (λ l. let same : s ≡ i = omega (arith, z, l) in subst (λ j. record_at c m j p a ≡ record_at c after j p a) same (unchanged p a s x hs hx route.line few)) (cases_lt i s))
          (none_named (only p a) s x hs hx once_here (omega (arith, stood))) k.kept

      -- two that have combined
      pair_after : (s x : ℕ) (old : QueueEntry) (new : Request) → s < c.stages → x < size c → IsEntryAt c s x (combined_entry old new) → old.request.cell ≡ new.cell
          → IsKeptAt c m is ks s old.request → IsKeptAt c m is ks s new → IsIn (wait_record old new) (next_lane c m s x).records
          → IsIn (Combined s x new.cell old.request.pe new.pe (pair_of old.request.op new.op).old_first) (combined_at s x)
          → IsRecordAt c s x (wait_record old new) → 1 ≤ lane_on_way (only old.request.pe old.request.cell) (lane_at after s x) → IsKeptAt c after is trees (suc s) (combined_entry old new).request
      pair_after s x old new hs hx route same_cell old_kept new_kept noted event_listed record_route l =
          let p = old.request.pe in
          let a = old.request.cell in
          let q = new.pe in
          let hp = route.reference.element in
          let hq = record_route.1.reference.element in
          let there = lane_there p a s x hx l in
          let now : (lane_at after s x).records ≡ (next_lane c m s x).records = rw (lane-request_phase c m s x hs hx) refl in
          let noted_now : IsIn (wait_record old new) (lane_at after s x).records = rw now noted in
          let partner = in_counts (record_passes (only q a)) (wait_record old new) (lane_at after s x).records noted_now (that_is q a) in
          let there_new = lane_there q a s x hx (omega (arith, partner)) in
          let beyond = tidy.beyond p a s x hs hx in
          let few : old_records (only p a) (lane_at after s x).records ≤ 1 = few_records p a s x hp hs hx in
          let found = find_unique p a (wait_record old new) (lane_at after s x).records noted_now (that_is p a) few in
          let at : record_at c after s p a ≡ Some (wait_record old new) = ap (λ z. find_record p a (lane_at after s z).records) route.line ∙ found in
          let old_tree = same_tree s p a (omega (arith, hs)) hp (λ i z. quiet_apart p a s i hp hs z there) in
          let new_tree = same_tree s q a (omega (arith, hs)) hq (λ i z. quiet_apart q a s i hq hs z there_new) in
          let new_here : IsKept c m is ks s q a new = subst (λ v. IsKept c m is ks s q v new) (sym same_cell) new_kept in
          let event_here : IsIn (Combined s x a p q (pair_of old.request.op new.op).old_first) (combined_at s x) = subst (λ v. IsIn (Combined s x v p q (pair_of old.request.op new.op).old_first) (combined_at s x)) (sym same_cell) event_listed in
          let event_among_all = in-table c.stages (size c) (λ i z. combined_at i z) s x (Combined s x a p q (pair_of old.request.op new.op).old_first) hs hx event_here in
          let one = all_parts (only p a) in
          let two = all_parts (only q a) in
          let made = combined_tree s x a p q (pair_of old.request.op new.op).old_first (built c m is s p a) (built c m is s q a) all_combined ks event_among_all
          (omega (arith, one, lanes_once p a hp)) (omega (arith, two, lanes_once q a hq)) old_kept.tree new_here.tree in
          let grows : built c after is (suc s) p a ≡ pair s x (built c m is s p a) (built c m is s q a) (pair_of old.request.op new.op).old_first =
          built_next c after is s p a
          ∙ (ap (λ z. grown s (position_of c s p a) (built c after is s p a) (λ v. built c after is s v a) z) at
          ∙ rw (← old_tree, ← new_tree, route.line, old_kept.op, new_here.op) refl) in
          let sends : sent (pair s x (built c m is s p a) (built c m is s q a) (pair_of old.request.op new.op).old_first) ≡ (pair_of old.request.op new.op).sent =
          ap (λ o. (pair_of o (sent (built c m is s q a))).sent) old_kept.op ∙ ap (λ o. (pair_of old.request.op o).sent) new_here.op in
          record { tree = made ∙ ap (λ t. Some t) (sym grows); op = ap (λ t. sent t) grows ∙ sends }

      -- each entry of a lane
      by_mark : (s : ℕ) (e : QueueEntry) (marked : Bool) → e.combined ≡ marked → IsKeptAt c after is trees (bound s marked) e.request → IsKeptAt c after is trees (bound s e.combined) e.request
      by_mark s e marked k h = subst (λ v. IsKeptAt c after is trees (bound s v) e.request) (sym k) h

      entry_after : (s x : ℕ) (e : QueueEntry) → s < c.stages → x < size c → IsEntryAt c s x e → ((u : QueueEntry → Bool) → u e ≡ true → 1 ≤ count u (next_lane c m s x).queue)
          → Said s x (next_lane c m s x) (combined_at s x) e → IsKeptAt c after is trees (bound s e.combined) e.request
      entry_after s x e hs hx route counts (inl h) =
          let t = only e.request.pe e.request.cell in
          let passed : is_unmarked t e ≡ true = rw (h.unmarked, that_is e.request.pe e.request.cell) refl in
          by_mark s e false h.unmarked (single_after s x e hs hx route.reference.element (counts (is_unmarked t) passed) h.kept)
      entry_after s x e hs hx route counts (inr (inl h)) = by_mark s e true h.marked (marked_after s x e hs hx route h)
      entry_after s x e hs hx route counts (inr (inr h)) =
          let t = only e.request.pe e.request.cell in
          let one = counts (entry_passes t) (that_is e.request.pe e.request.cell) in
          let lane : 1 ≤ lane_on_way t (lane_at after s x) = rw (lane-request_phase c m s x hs hx) (omega (arith, one)) in
          let record_route = in_holds (IsRecordAt c s x) (wait_record h.old h.new) (next_lane c m s x).records (rw (lane-request_phase c m s x hs hx) at (routed.records s x hs hx)) h.noted in
          let marked : e.combined ≡ true = rw h.entry refl in
          let pair_kept = pair_after s x h.old h.new hs hx (subst (λ v. IsEntryAt c s x v) h.entry route) h.cell h.old_kept h.new_kept h.noted h.event_listed record_route
          (subst (λ v. 1 ≤ lane_on_way (only v.request.pe v.request.cell) (lane_at after s x)) h.entry lane) in
          by_mark s e true marked (subst (λ v. IsKeptAt c after is trees (suc s) v.request) (sym h.entry) pair_kept)

      queued_after : (s x : ℕ) → s < c.stages → x < size c → AllByRecursion (λ (e : QueueEntry). IsKeptAt c after is trees (bound s e.combined) e.request) (next_lane c m s x).queue
      queued_after s x hs hx =
          each_in (λ (e : QueueEntry). IsEntryAt c s x e × Said s x (next_lane c m s x) (combined_at s x) e) (λ (e : QueueEntry). IsKeptAt c after is trees (bound s e.combined) e.request) (next_lane c m s x).queue
          (λ e counts h. entry_after s x e hs hx h.0 counts h.1)
          (each_and (IsEntryAt c s x) (Said s x (next_lane c m s x) (combined_at s x)) (next_lane c m s x).queue (rw (lane-request_phase c m s x hs hx) at (routed.requests s x hs hx)) (said s x hs hx))

      -- ---- what is outside the lanes
      lanes_empty : (p a : ℕ) → p < size c → 1 + total c.stages (λ s. lanes_of (only p a) c after s) ≤ on_way (only p a) c after → (total c.stages (λ s. lanes_of (only p a) c after s) ≤ 0)
      lanes_empty p a hp l = omega (arith, l, once c range after even p a hp)

      quiet_all : (p a s : ℕ) → p < size c → s < c.stages → total c.stages (λ s. lanes_of (only p a) c after s) ≤ 0 → record_at c m s p a ≡ record_at c after s p a
      quiet_all p a s hp hs l = quiet p a s hp hs (omega (arith, l, total_term c.stages (λ j. lanes_of (only p a) c after j) s hs))

      unnamed : (p a : ℕ) → total c.stages (λ s. lanes_of (only p a) c after s) ≤ 0 → mentions (only p a) all_combined ≤ 0
      unnamed p a l = omega (arith, l, all_parts (only p a))

      kept_outside : (n : ℕ) (r : Request) → n ≤ c.stages → r.pe < size c → total c.stages (λ s. lanes_of (only r.pe r.cell) c after s) ≤ 0 → IsKeptAt c m is ks n r → IsKeptAt c after is trees n r
      kept_outside n r hn hp l k = kept_same n r hn hp (λ s z. quiet_all r.pe r.cell s hp (omega (arith, z, hn)) l) (unnamed r.pe r.cell l) k

      answered_outside : (n : ℕ) (r : ReplyMessage) → n ≤ c.stages → r.pe < size c → total c.stages (λ s. lanes_of (only r.pe r.cell) c after s) ≤ 0 → IsAnswered c m is list n r → IsAnswered c after is list n r
      answered_outside n r hn hp l k = subst (λ t. IsExplained list t r.reply) (same_tree n r.pe r.cell hn hp (λ s z. quiet_all r.pe r.cell s hp (omega (arith, z, hn)) l)) k

      pending_after : (p : ℕ) → p < size c → AllByRecursion (IsKeptAt c after is trees 0) (element_at after p).interface.pending
      pending_after p hp =
          each_in (λ (r : Request). IsOwn c p r × IsKeptAt c m is ks 0 r) (IsKeptAt c after is trees 0) (element_at after p).interface.pending
          (λ r counts h.
          let small : r.pe < size c = rw h.0.0 hp in
          let one = counts (passes (only r.pe r.cell)) (that_is r.pe r.cell) in
          let there = total_term (size c) (λ q. pending_on_way (only r.pe r.cell) (element_at after q)) p hp in
          kept_outside 0 r (omega arith) small (lanes_empty r.pe r.cell small (omega (arith, one, there))) h.1)
          (each_and (IsOwn c p) (IsKeptAt c m is ks 0) (element_at after p).interface.pending (routed.pending p hp)
          (rw (element-request_phase c m p hp) (each-after_leaving (IsKeptAt c m is ks 0) (arriving_request c m 0 (shuffled c.stages p)) (element_at m p).interface.pending (f.pending p hp))))

      input_with : (k : ℕ) (v : ModuleState) (o : Option Request) → IfSome v.inp (λ (p : Placed). IsKeptAt c m is ks c.stages p.request) → IfSome o (IsKeptAt c m is ks c.stages) → IfSome (with_request c v o).inp (λ (p : Placed). IsKeptAt c m is ks c.stages p.request)
      input_with k v None h g = h
      input_with k v (Some r) h g = g

      output_with : (k : ℕ) (v : ModuleState) (o : Option Request) → IfSome v.out (IsAnswered c m is list c.stages) → IfSome (with_request c v o).out (IsAnswered c m is list c.stages)
      output_with k v None h = h
      output_with k v (Some r) h = h

      input_after : (k : ℕ) → k < size c → IfSome (module_at after k).inp (λ (p : Placed). IsKeptAt c after is trees c.stages p.request)
      input_after k hk =
          some_in (λ (p : Placed). IsPlacedAt c k p × IsKeptAt c m is ks c.stages p.request) (λ (p : Placed). IsKeptAt c after is trees c.stages p.request) (module_at after k).inp
          (λ p counts h.
          let hp = h.0.0.reference.element in
          let t = only p.request.pe p.request.cell in
          let one = counts (λ (q : Placed). t q.request.pe q.request.cell) (that_is p.request.pe p.request.cell) in
          let there = total_term (size c) (λ z. module_on_way t (module_at after z)) k hk in
          kept_outside c.stages p.request (omega arith) hp (lanes_empty p.request.pe p.request.cell hp (omega (arith, one, there))) h.1)
          (some_and (IsPlacedAt c k) (λ (p : Placed). IsKeptAt c m is ks c.stages p.request) (module_at after k).inp (routed.inputs k hk)
          (rw (memory_module-request_phase c m k hk) (input_with k (module_at m k) (entering c m k) (f.inputs k hk) (entering_kept k hk))))

      output_after : (k : ℕ) → k < size c → IfSome (module_at after k).out (IsAnswered c after is list c.stages)
      output_after k hk =
          some_in (λ (r : ReplyMessage). IsReplyOf c k r × IsAnswered c m is list c.stages r) (IsAnswered c after is list c.stages) (module_at after k).out
          (λ r counts h.
          let hp = h.0.reference.element in
          let t = only r.pe r.cell in
          let one = counts (reply_passes t) (that_is r.pe r.cell) in
          let there = total_term (size c) (λ z. module_on_way t (module_at after z)) k hk in
          answered_outside c.stages r (omega arith) hp (lanes_empty r.pe r.cell hp (omega (arith, one, there))) h.1)
          (some_and (IsReplyOf c k) (IsAnswered c m is list c.stages) (module_at after k).out (routed.outputs k hk)
          (rw (memory_module-request_phase c m k hk) (output_with k (module_at m k) (entering c m k) (f.outputs k hk))))

      same_replies : (s v : ℕ) → replies_at after s v ≡ replies_at m s v
      unfolding request_phase
      same_replies s v = refl

      replies_after : (s v : ℕ) → s < c.stages → v < size c → AllByRecursion (IsAnswered c after is list s) (replies_at after s v)
      replies_after s v hs hv =
          each_in (λ (r : ReplyMessage). IsReplyAt c s v r × IsAnswered c m is list s r) (IsAnswered c after is list s) (replies_at after s v)
          (λ r counts h.
          let hp = h.0.reference.element in
          let t = only r.pe r.cell in
          let one = counts (reply_passes t) (that_is r.pe r.cell) in
          let there = table_term c.stages (size c) (λ i z. replies_on_way t (replies_at after i z)) s v hs hv in
          answered_outside s r (omega (arith, hs)) hp (lanes_empty r.pe r.cell hp (omega (arith, one, there))) h.1)
          (each_and (IsReplyAt c s v) (IsAnswered c m is list s) (replies_at after s v) (routed.replies s v hs hv) (rw (same_replies s v) (f.replies s v hs hv)))

      -- ---- records
      old_apart : (p a s x i : ℕ) → p < size c → s < c.stages → x < size c → i < s → 1 ≤ old_records (only p a) (lane_at after s x).records → record_at c m i p a ≡ record_at c after i p a
      old_apart p a s x i hp hs hx hi l =
          let t = only p a in
          let beyond = tidy.beyond p a s x hs hx in
          let next = total_next s (λ j. lanes_of t c after j) in
          let there = total_term s (λ j. lanes_of t c after j) i hi in
          quiet p a i hp (omega arith) (omega (arith, beyond, next, there, l, marked_lanes c after t s, opened_once c range after p a hp, even.different p hp a))

      records_after : (s x : ℕ) → s < c.stages → x < size c → AllByRecursion (IsGiven c after is s) (lane_at after s x).records
      records_after s x hs hx =
          each_in (λ (u : WaitRecord). IsRecordAt c s x u × IsGiven c m is s u) (IsGiven c after is s) (lane_at after s x).records
          (λ u counts h.
          let old = h.0.0.reference.element in
          let new = h.0.1.reference.element in
          let one = counts (λ (v : WaitRecord). is_reference u.pe u.cell v.pe v.cell) (that_is u.pe u.cell) in
          let two = counts (record_passes (only u.partner u.cell)) (that_is u.partner u.cell) in
          let first = same_tree s u.pe u.cell (omega (arith, hs)) old (λ i l. old_apart u.pe u.cell s x i old hs hx l one) in
          let second = same_tree s u.partner u.cell (omega (arith, hs)) new (λ i l. quiet_apart u.partner u.cell s i new hs l (lane_there u.partner u.cell s x hx (omega (arith, two)))) in
          record { old = rw (← first, ← second) h.1.old; new = rw (← first, ← second) h.1.new })
          (each_and (IsRecordAt c s x) (IsGiven c m is s) (lane_at after s x).records (routed.records s x hs hx) (rw (lane-request_phase c m s x hs hx) (given s x hs hx)))

      pub forest-request_phase : IsForest c after trees is list
      forest-request_phase = record {
        pending = pending_after;
        queued = λ s x hs hx. rw (lane-request_phase c m s x hs hx) (queued_after s x hs hx);
        inputs = input_after;
        outputs = output_after;
        replies = replies_after;
        records = records_after;
      }
