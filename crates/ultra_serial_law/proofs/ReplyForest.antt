-- the reply phase keeps what the messages say: a reply that meets its record is split as its tree is
use Rattle.std.proofs.Common.{◌≡◌, ℕ, suc, ◌+◌, ◌*◌, ◌/◌, ◌<◌, ◌≤◌, List, [], ◌∷◌, Bool, true, false, refl, arith, sym, ◌∙◌, ap, subst}
use Rattle.std.specs.Prelude.{Option, Some, None, IfSome, slice_get, ◌==◌}
use Rattle.std.specs.List.{AllByRecursion}
use Rattle.std.proofs.lemmas.Bool.{eqb-true, Decides.nat_tests}
use Rattle.ultra_msg.specs.{declared.{Request.Request, ReplyMessage.ReplyMessage}, Pair.pair_of}
use Rattle.ultra_route.specs.Route.{shuffled}
use Rattle.ultra_switch.specs.{declared.{QueueEntry.QueueEntry, WaitRecord.WaitRecord}, Split.{is_of, records_after, replies_of, old_reply, new_reply}}
use Rattle.ultra_mem.specs.{declared.Placed.Placed, Serve.ModuleState}
use Rattle.ultra_model.specs.Machine.{Settings, Machine, Element, size, last_stage, lane_at, replies_at, module_at, element_at, reply_exit}
use Rattle.ultra_model.specs.Phases.{deliver, delivered, without_reply, records_left, replies_made, arriving_reply, reply_before, has_reply_room, leaving_reply, replies_at_exit, next_replies, reply_phase}
use Rattle.ultra_model.specs.Ranges.{AreInRange}
use Rattle.ultra_model.specs.Routed.{IsByLine, IsEntryAt, IsRecordAt, IsReplyAt, IsPlacedAt, IsReplyOf, IsRouted}
use Rattle.ultra_model.specs.Balance.{weight, count, count_option, total, reply_passes, entry_passes, record_passes, lane_on_way, replies_on_way, module_on_way, IsBalanced}
use Rattle.ultra_model.proofs.{Each.{each-append, each-after_leaving, each-first, if_tested}, OnRoute.each-filter, Sums.{total_next, total_term}, Counting.{is_reference, count-leaving}, Routes.{routed-reply_phase, turns_back, arriving_reply_well, two_ports}, AtPlaces.{lane-reply_phase, replies-reply_phase, memory_module-reply_phase, element-reply_phase}}
use Rattle.ultra_model.proofs.ReplyBalance as replies
use Rattle.ultra_serial_law.specs.{Tree.Kept, Log.LoggedIssue, Legal.Entry as Done}
use Rattle.ultra_serial_law.proofs.Series.{sent}
use Rattle.ultra_serial_law.proofs.Tidy.{old_records, lanes_of, replies_of as stage_replies, IsTidy, total_most, is_that, that_is, zero_weight, comes, lanes_row, replies_row, tidy-reply_phase}
use Rattle.ultra_serial_law.proofs.Forest.{find_record, record_at, position_of, built, built_leaf, built_next, grown, same_built, found_record, found_is, found_partner}
use Rattle.ultra_serial_law.proofs.Standing.{each_in, some_in, total_both, marked_lanes, once, position_small}
use Rattle.ultra_serial_law.proofs.Explained.{IsExplained, bound, bound_small, IsKeptAt, IsAnswered, IsGiven, IsForest}

-- ---- lists
pub each_and : {X : Type 0} (P Q : X → Type 0) (xs : List X) → AllByRecursion P xs → AllByRecursion Q xs → AllByRecursion (λ x. P x × Q x) xs
each_and P Q [] g h = tt
each_and P Q (x ∷ xs) g h = ((g.0, h.0), each_and P Q xs g.1 h.1)

pub some_and : {X : Type 0} (P Q : X → Type 0) (o : Option X) → IfSome o P → IfSome o Q → IfSome o (λ x. P x × Q x)
some_and P Q None g h = tt
some_and P Q (Some x) g h = (g, h)

fewer_step : (t : WaitRecord → Bool) (w : WaitRecord) (ws us : List WaitRecord) (b : Bool) → count t us ≤ count t ws → count t (elim b [ true ↦ ws | false ↦ w ∷ us ]) ≤ weight (t w) + count t ws
fewer_step t w ws us true h = omega arith
fewer_step t w ws us false h = omega (arith, h)

fewer_after : (t : WaitRecord → Bool) (r : ReplyMessage) (ws : List WaitRecord) → count t (records_after r ws) ≤ count t ws
fewer_after t r [] = omega arith
fewer_after t r (w ∷ ws) = fewer_step t w ws (records_after r ws) (is_of r w) (fewer_after t r ws)

fewer_left : (t : WaitRecord → Bool) (ws : List WaitRecord) (o : Option ReplyMessage) → count t (records_left ws o) ≤ count t ws
fewer_left t ws None = omega arith
fewer_left t ws (Some r) = fewer_after t r ws

each_after : (P : WaitRecord → Type 0) (r : ReplyMessage) (ws : List WaitRecord) → AllByRecursion P ws → AllByRecursion P (records_after r ws)
each_after P r [] h = tt
each_after P r (w ∷ ws) h = if_tested (is_of r w) (λ us. AllByRecursion P us) ws (w ∷ records_after r ws) (λ z. h.1) (λ z. (h.0, each_after P r ws h.1))

each_left : (P : WaitRecord → Type 0) (ws : List WaitRecord) (o : Option ReplyMessage) → AllByRecursion P ws → AllByRecursion P (records_left ws o)
each_left P ws None h = h
each_left P ws (Some r) h = each_after P r ws h

-- a reply of another reference leaves the record of this one
find_step : (p a : ℕ) (r : ReplyMessage) (w : WaitRecord) (ws : List WaitRecord) (b : Bool) → is_of r w ≡ b → is_reference p a r.pe r.cell ≡ false → find_record p a (records_after r ws) ≡ find_record p a ws
    → find_record p a (elim b [ true ↦ ws | false ↦ w ∷ records_after r ws ]) ≡ find_record p a (w ∷ ws)
find_step p a r w ws true e h rest =
    let same = is_that r.pe r.cell w.pe w.cell e in
    let apart : is_reference p a w.pe w.cell ≡ false = rw (same.0, same.1) h in
    let f : Bool → Option WaitRecord = λ b. elim b [ true ↦ Some w | false ↦ find_record p a ws ] in
    sym (ap f apart)
find_step p a r w ws false e h rest =
    let f : Option WaitRecord → Option WaitRecord = λ o. elim (is_reference p a w.pe w.cell) [ true ↦ Some w | false ↦ o ] in
    ap f rest

find_after : (p a : ℕ) (r : ReplyMessage) (ws : List WaitRecord) → is_reference p a r.pe r.cell ≡ false → find_record p a (records_after r ws) ≡ find_record p a ws
find_after p a r [] h = refl
find_after p a r (w ∷ ws) h = find_step p a r w ws (is_of r w) refl h (find_after p a r ws h)

find_left : (p a : ℕ) (ws : List WaitRecord) (o : Option ReplyMessage) → count_option (reply_passes (is_reference p a)) o ≤ 0 → find_record p a ws ≡ find_record p a (records_left ws o)
find_left p a ws None h = refl
find_left p a ws (Some r) h = sym (find_after p a r ws (zero_weight (is_reference p a r.pe r.cell) h))

-- what becomes of a reply, by the record that it finds
abbrev made_by : ReplyMessage → Option WaitRecord → List ReplyMessage
made_by r None = r ∷ []
made_by r (Some w) = old_reply r w ∷ new_reply r w ∷ []

made_step : (r : ReplyMessage) (w : WaitRecord) (ws : List WaitRecord) (b : Bool) → replies_of r ws ≡ made_by r (find_record r.pe r.cell ws)
    → elim b [ true ↦ old_reply r w ∷ new_reply r w ∷ [] | false ↦ replies_of r ws ] ≡ made_by r (elim b [ true ↦ Some w | false ↦ find_record r.pe r.cell ws ])
made_step r w ws true h = refl
made_step r w ws false h = h

made_is : (r : ReplyMessage) (ws : List WaitRecord) → replies_of r ws ≡ made_by r (find_record r.pe r.cell ws)
made_is r [] = refl
made_is r (w ∷ ws) = made_step r w ws (is_of r w) (made_is r ws)

inp_kept : (b : ModuleState) (o : Option ReplyMessage) → (without_reply b o).inp ≡ b.inp
inp_kept b None = refl
inp_kept b (Some r) = refl

out_kept : (P : ReplyMessage → Type 0) (b : ModuleState) (o : Option ReplyMessage) → IfSome b.out P → IfSome (without_reply b o).out P
out_kept P b None h = h
out_kept P b (Some r) h = tt

not_last : (s n : ℕ) → (s == n) ≡ false → s < n + 1 → s < n
not_last s n h l = grind (arith, nat_tests)

module _ (c : Settings) (range : AreInRange c) (m : Machine) (w : IsRouted c m) (b : IsBalanced c m) (y : IsTidy c m) where
  abbrev after : Machine
  after = reply_phase c m

  routed : IsRouted c after
  routed = routed-reply_phase c range m w

  even : IsBalanced c after
  even = replies.balanced-reply_phase c range m w b

  -- ---- what arrives at a stage is there afterwards
  module _ (t : ℕ → ℕ → Bool) where
    came : (s : ℕ) → s < c.stages → comes c range m t s ≤ stage_replies t c after s
    came s h =
        let lanes = lanes_row c range m t s h in
        let rows = replies_row c range m t s h in
        let fewer = total_most (size c) (λ x. lane_on_way t (lane_at m s x)) (λ x. lane_on_way t (lane_at after s x))
        (λ x l. rw (lane-reply_phase c m s x h l) (omega (arith, fewer_left (record_passes t) (lane_at m s x).records (arriving_reply c m s x)))) in
        let leave = total_most (size c) (λ z. replies_on_way t (replies_at m s z)) (λ z. replies.leaving c range m t s z)
        (λ z l. omega (arith, count-leaving (reply_passes t) (leaving_reply c m s z) (replies_at m s z) (replies.leaving_head c range m s z h l))) in
        omega (arith, lanes, rows, fewer, leave)

  abbrev Unmoved : ℕ → ℕ → ℕ → Type 0
  Unmoved p a s = comes c range m (is_reference p a) s ≤ 0

  -- nothing of a reference arrives where it is elsewhere afterwards
  still_lanes : (p a s i : ℕ) → p < size c → s < c.stages → i < c.stages → 1 ≤ lanes_of (is_reference p a) c after s → Unmoved p a i
  still_lanes p a s i hp hs hi l =
      let t = is_reference p a in
      let one = once c range after even p a hp in
      let here = total_term c.stages (λ j. lanes_of t c after j) s hs in
      let there = total_term c.stages (λ j. stage_replies t c after j) i hi in
      omega (arith, one, here, there, came t i hi, l)

  still_modules : (p a i : ℕ) → p < size c → i < c.stages → 1 ≤ total (size c) (λ k. module_on_way (is_reference p a) (module_at after k)) → Unmoved p a i
  still_modules p a i hp hi l =
      let t = is_reference p a in
      let one = once c range after even p a hp in
      let there = total_term c.stages (λ j. stage_replies t c after j) i hi in
      omega (arith, one, there, came t i hi, l)

  still_replies : (p a s i : ℕ) → p < size c → s < c.stages → i < s → 1 ≤ stage_replies (is_reference p a) c after s → Unmoved p a i
  still_replies p a s i hp hs hi l =
      let t = is_reference p a in
      let one = once c range after even p a hp in
      let both = total_both c.stages (λ j. stage_replies t c after j) s i hs (omega arith) (omega arith) in
      omega (arith, one, both, came t i (omega arith), l)

  still_record : (p a s x i : ℕ) → p < size c → s < c.stages → x < size c → i < s → 1 ≤ old_records (is_reference p a) (lane_at after s x).records → Unmoved p a i
  still_record p a s x i hp hs hx hi l =
      let t = is_reference p a in
      let beyond = (tidy-reply_phase c range m w b y).beyond p a s x hs hx in
      let opened = replies.opened_once c range after p a hp in
      let one = even.different p hp a in
      let next = total_next s (λ j. lanes_of t c after j) in
      let there = total_term (suc s) (λ j. stage_replies t c after j) i (omega arith) in
      omega (arith, beyond, opened, one, next, there, marked_lanes c after t s, came t i (omega arith), l)

  unmoved : (p a s : ℕ) → p < size c → s < c.stages → Unmoved p a s → record_at c m s p a ≡ record_at c after s p a
  unmoved p a s hp hs h =
      let x = position_of c s p a in
      let small = position_small c range m b s p a hs hp in
      let here = total_term (size c) (λ z. replies.arriving c range m (is_reference p a) s z) x small in
      rw (lane-reply_phase c m s x hs small) (find_left p a (lane_at m s x).records (arriving_reply c m s x) (omega (arith, here, h)))

  -- so its tree is the same
  module _ (is : List LoggedIssue) where
    same_tree : (b p a : ℕ) → b ≤ c.stages → p < size c → ((s : ℕ) → s < b → Unmoved p a s) → built c m is b p a ≡ built c after is b p a
    same_tree n p a hn hp h =
        same_built c m after is is a n p record { issue = refl; records = λ s l. unmoved p a s hp (omega arith) (h s l) }
        (λ s q u l e hq.
        let x = position_of c s q a in
        let small = position_small c range m b s q a (omega arith) hq in
        let route = found_record q a (lane_at after s x).records u e (IsRecordAt c s x) (routed.records s x (omega arith) small) in
        let counts = found_partner q a (lane_at after s x).records u e in
        let there = total_term (size c) (λ z. lane_on_way (is_reference u.partner a) (lane_at after s z)) x small in (
          route.1.reference.element,
          record { issue = refl; records = λ i k. unmoved u.partner a i route.1.reference.element (omega arith) (still_lanes u.partner a s i route.1.reference.element (omega arith) (omega arith) (omega (arith, counts, there))) },
        ))
        hp

    -- ---- what the messages say
    module _ (ks : List Kept) (list : List Done) (f : IsForest c m ks is list) where
      kept_moved : (n : ℕ) (r : Request) → n ≤ c.stages → r.pe < size c → ((s : ℕ) → s < n → Unmoved r.pe r.cell s) → IsKeptAt c m is ks n r → IsKeptAt c after is ks n r
      kept_moved n r hn hp h k =
          let same = same_tree n r.pe r.cell hn hp h in
          record { tree = rw (← same) k.tree; op = rw (← same) k.op }

      answered_moved : (n : ℕ) (r : ReplyMessage) → n ≤ c.stages → r.pe < size c → ((s : ℕ) → s < n → Unmoved r.pe r.cell s) → IsAnswered c m is list n r → IsAnswered c after is list n r
      answered_moved n r hn hp h k = subst (λ t. IsExplained list t r.reply) (same_tree n r.pe r.cell hn hp h) k

      kept_leaf : (r : Request) → IsKeptAt c m is ks 0 r → IsKeptAt c after is ks 0 r
      kept_leaf r k =
          let same : built c m is 0 r.pe r.cell ≡ built c after is 0 r.pe r.cell = built_leaf c m is r.pe r.cell ∙ sym (built_leaf c after is r.pe r.cell) in
          record { tree = rw (← same) k.tree; op = rw (← same) k.op }

      -- requests
      pending_said : (p : ℕ) (e : Element) (o : Option ReplyMessage) → AllByRecursion (IsKeptAt c m is ks 0) e.interface.pending → AllByRecursion (IsKeptAt c after is ks 0) (deliver e o).interface.pending
      pending_said p e None h = each_in (IsKeptAt c m is ks 0) (IsKeptAt c after is ks 0) e.interface.pending (λ r counts k. kept_leaf r k) h
      pending_said p e (Some v) h = each_in (IsKeptAt c m is ks 0) (IsKeptAt c after is ks 0) e.interface.pending (λ r counts k. kept_leaf r k) h

      queued_said : (s x : ℕ) → s < c.stages → x < size c → AllByRecursion (λ (e : QueueEntry). IsKeptAt c after is ks (bound s e.combined) e.request) (lane_at m s x).queue
      queued_said s x hs hx =
          each_in (λ (e : QueueEntry). IsEntryAt c s x e × IsKeptAt c m is ks (bound s e.combined) e.request) (λ (e : QueueEntry). IsKeptAt c after is ks (bound s e.combined) e.request) (lane_at m s x).queue
          (λ e counts k.
          let hp = k.0.reference.element in
          let t = is_reference e.request.pe e.request.cell in
          let one = counts (entry_passes t) (that_is e.request.pe e.request.cell) in
          let there = total_term (size c) (λ z. lane_on_way t (lane_at after s z)) x hx in
          let lane : 1 ≤ lane_on_way t (lane_at after s x) = rw (lane-reply_phase c m s x hs hx) (omega (arith, one)) in
          let small = bound_small c.stages s e.combined hs in
          kept_moved (bound s e.combined) e.request small hp (λ i l. still_lanes e.request.pe e.request.cell s i hp hs (omega (arith, l, small)) (omega (arith, there, lane))) k.1)
          (each_and (IsEntryAt c s x) (λ (e : QueueEntry). IsKeptAt c m is ks (bound s e.combined) e.request) (lane_at m s x).queue (w.requests s x hs hx) (f.queued s x hs hx))

      input_said : (k : ℕ) → k < size c → IfSome (module_at after k).inp (λ (p : Placed). IsKeptAt c after is ks c.stages p.request)
      input_said k hk =
          let same = inp_kept (module_at m k) (arriving_reply c m (last_stage c) k) in
          let now : (module_at after k).inp ≡ (module_at m k).inp = rw (memory_module-reply_phase c m k hk) same in
          some_in (λ (p : Placed). IsPlacedAt c k p × IsKeptAt c m is ks c.stages p.request) (λ (p : Placed). IsKeptAt c after is ks c.stages p.request) (module_at after k).inp
          (λ p counts h.
          let hp = h.0.0.reference.element in
          let t = is_reference p.request.pe p.request.cell in
          let one = counts (λ (q : Placed). t q.request.pe q.request.cell) (that_is p.request.pe p.request.cell) in
          let there = total_term (size c) (λ z. module_on_way t (module_at after z)) k hk in
          kept_moved c.stages p.request (omega arith) hp (λ i l. still_modules p.request.pe p.request.cell i hp l (omega (arith, one, there))) h.1)
          (subst (λ o. IfSome o (λ (p : Placed). IsPlacedAt c k p × IsKeptAt c m is ks c.stages p.request)) (sym now)
          (some_and (IsPlacedAt c k) (λ (p : Placed). IsKeptAt c m is ks c.stages p.request) (module_at m k).inp (w.inputs k hk) (f.inputs k hk)))

      output_said : (k : ℕ) → k < size c → IfSome (module_at after k).out (IsAnswered c after is list c.stages)
      output_said k hk =
          some_in (λ (r : ReplyMessage). IsReplyOf c k r × IsAnswered c m is list c.stages r) (IsAnswered c after is list c.stages) (module_at after k).out
          (λ r counts h.
          let hp = h.0.reference.element in
          let t = is_reference r.pe r.cell in
          let one = counts (reply_passes t) (that_is r.pe r.cell) in
          let there = total_term (size c) (λ z. module_on_way t (module_at after z)) k hk in
          answered_moved c.stages r (omega arith) hp (λ i l. still_modules r.pe r.cell i hp l (omega (arith, one, there))) h.1)
          (some_and (IsReplyOf c k) (IsAnswered c m is list c.stages) (module_at after k).out (routed.outputs k hk)
          (rw (memory_module-reply_phase c m k hk) (out_kept (IsAnswered c m is list c.stages) (module_at m k) (arriving_reply c m (last_stage c) k) (f.outputs k hk))))

      -- replies
      before_said : (s x : ℕ) → s < c.stages → x < size c → IfSome (reply_before c m s x) (IsAnswered c m is list (suc s))
      before_said s x hs hx =
          let some = range.some_stages in
          if_tested (s == last_stage c) (λ o. IfSome o (IsAnswered c m is list (suc s))) (module_at m x).out (slice_get (replies_at m (s + 1) (shuffled c.stages x)) 0)
          (λ z. let last : s ≡ last_stage c = eqb-true s (last_stage c) z in
          let top : c.stages ≡ suc s = omega arith in
          subst (λ n. IfSome (module_at m x).out (IsAnswered c m is list n)) top (f.outputs x hx))
          (λ z. let less : s < last_stage c = not_last s (last_stage c) z (omega arith) in
          let next : s + 1 ≡ suc s = omega arith in
          let yy = shuffled c.stages x in
          subst (λ n. IfSome (slice_get (replies_at m (s + 1) yy) 0) (IsAnswered c m is list n)) next
          (each-first (IsAnswered c m is list (s + 1)) (replies_at m (s + 1) yy) (f.replies (s + 1) yy (omega arith) (turns_back c range x hx).entry_small)))

      arriving_said : (s x : ℕ) → s < c.stages → x < size c → IfSome (arriving_reply c m s x) (IsAnswered c m is list (suc s))
      unfolding arriving_reply
      arriving_said s x hs hx = if_tested (has_reply_room c m s (x / 2)) (λ o. IfSome o (IsAnswered c m is list (suc s))) (reply_before c m s x) None (λ z. before_said s x hs hx) (λ z. tt)

      grown_by : (s : ℕ) (r : ReplyMessage) (o : Option WaitRecord) → record_at c m s r.pe r.cell ≡ o
          → grown s (position_of c s r.pe r.cell) (built c m is s r.pe r.cell) (λ q. built c m is s q r.cell) (record_at c m s r.pe r.cell)
          ≡ grown s (position_of c s r.pe r.cell) (built c m is s r.pe r.cell) (λ q. built c m is s q r.cell) o
      grown_by s r o e = ap (λ z. grown s (position_of c s r.pe r.cell) (built c m is s r.pe r.cell) (λ q. built c m is s q r.cell) z) e

      found_given_of : (s p a : ℕ) (ws : List WaitRecord) → AllByRecursion (IsGiven c m is s) ws → (o : Option WaitRecord) → find_record p a ws ≡ o → IfSome o (λ u. IsGiven c m is s u × (u.pe ≡ p) × (u.cell ≡ a))
      found_given_of s p a ws h None e = tt
      found_given_of s p a ws h (Some u) e = let that = found_is p a ws u e in (found_record p a ws u e (IsGiven c m is s) h, that.0, that.1)

      found_given : (s p a : ℕ) (ws : List WaitRecord) → AllByRecursion (IsGiven c m is s) ws → IfSome (find_record p a ws) (λ u. IsGiven c m is s u × (u.pe ≡ p) × (u.cell ≡ a))
      found_given s p a ws h = found_given_of s p a ws h (find_record p a ws) refl

      -- a split gives the replies of both trees of the pair
      split_said : (s x : ℕ) (r : ReplyMessage) (o : Option WaitRecord) → record_at c m s r.pe r.cell ≡ o → IfSome o (λ u. IsGiven c m is s u × (u.pe ≡ r.pe) × (u.cell ≡ r.cell))
          → IsAnswered c m is list (suc s) r → AllByRecursion (IsAnswered c m is list s) (made_by r o)
      split_said s x r None e g h = (subst (λ t. IsExplained list t r.reply) (built_next c m is s r.pe r.cell ∙ grown_by s r None e) h, tt)
      split_said s x r (Some u) e g h =
          let both = subst (λ t. IsExplained list t r.reply) (built_next c m is s r.pe r.cell ∙ grown_by s r (Some u) e) h in
          let old : u.give_old ≡ (pair_of (sent (built c m is s r.pe r.cell)) (sent (built c m is s u.partner r.cell))).give_old = rw (g.1, g.2) at g.0.old in
          let new : u.give_new ≡ (pair_of (sent (built c m is s r.pe r.cell)) (sent (built c m is s u.partner r.cell))).give_new = rw (g.1, g.2) at g.0.new in
          (rw old both.0, (rw new both.1, tt))

      made_said_of : (s x : ℕ) → s < c.stages → x < size c → (o : Option ReplyMessage) → IfSome o (λ r. IsByLine c s x r.pe r.cell × IsAnswered c m is list (suc s) r)
          → AllByRecursion (IsAnswered c m is list s) (replies_made (lane_at m s x).records o)
      made_said_of s x hs hx None h = tt
      made_said_of s x hs hx (Some r) h =
          let line : position_of c s r.pe r.cell ≡ x = h.0.line in
          let ws = (lane_at m s x).records in
          let at : record_at c m s r.pe r.cell ≡ find_record r.pe r.cell ws = ap (λ z. find_record r.pe r.cell (lane_at m s z).records) line in
          rw (made_is r ws)
          (split_said s x r (find_record r.pe r.cell ws) at (found_given s r.pe r.cell ws (f.records s x hs hx)) h.1)

      made_said : (s x : ℕ) → s < c.stages → x < size c → AllByRecursion (IsAnswered c m is list s) (replies_made (lane_at m s x).records (arriving_reply c m s x))
      made_said s x hs hx =
          made_said_of s x hs hx (arriving_reply c m s x)
          (some_and (λ (r : ReplyMessage). IsByLine c s x r.pe r.cell) (IsAnswered c m is list (suc s)) (arriving_reply c m s x) (arriving_reply_well c range m w s x hs hx) (arriving_said s x hs hx))

      exit_said : (s x v : ℕ) → s < c.stages → x < size c → AllByRecursion (IsAnswered c m is list s) (replies_at_exit c m s x v)
      exit_said s x v hs hx =
          each-filter (IsAnswered c m is list s) (IsAnswered c m is list s) (λ r. reply_exit c s x r == v) (replies_made (lane_at m s x).records (arriving_reply c m s x)) (λ r k z. k) (made_said s x hs hx)

      next_said : (s v : ℕ) → s < c.stages → v < size c → AllByRecursion (IsAnswered c m is list s) (next_replies c m s v)
      next_said s v hs hv =
          let ports = two_ports c range v hv in
          each-append (IsAnswered c m is list s) _ _
          (each-append (IsAnswered c m is list s) _ _ (each-after_leaving (IsAnswered c m is list s) (leaving_reply c m s v) (replies_at m s v) (f.replies s v hs hv)) (exit_said s (2 * (v / 2)) v hs ports.0))
          (exit_said s (2 * (v / 2) + 1) v hs ports.1)

      replies_said : (s v : ℕ) → s < c.stages → v < size c → AllByRecursion (IsAnswered c after is list s) (replies_at after s v)
      replies_said s v hs hv =
          each_in (λ (r : ReplyMessage). IsReplyAt c s v r × IsAnswered c m is list s r) (IsAnswered c after is list s) (replies_at after s v)
          (λ r counts h.
          let hp = h.0.reference.element in
          let t = is_reference r.pe r.cell in
          let one = counts (reply_passes t) (that_is r.pe r.cell) in
          let there = total_term (size c) (λ z. replies_on_way t (replies_at after s z)) v hv in
          answered_moved s r (omega (arith, hs)) hp (λ i l. still_replies r.pe r.cell s i hp hs l (omega (arith, one, there))) h.1)
          (each_and (IsReplyAt c s v) (IsAnswered c m is list s) (replies_at after s v) (routed.replies s v hs hv) (rw (replies-reply_phase c m s v hs hv) (next_said s v hs hv)))

      -- records
      records_said : (s x : ℕ) → s < c.stages → x < size c → AllByRecursion (IsGiven c after is s) (lane_at after s x).records
      records_said s x hs hx =
          each_in (λ (u : WaitRecord). IsRecordAt c s x u × IsGiven c m is s u) (IsGiven c after is s) (lane_at after s x).records
          (λ u counts h.
          let old = h.0.0.reference.element in
          let new = h.0.1.reference.element in
          let one = counts (λ (v : WaitRecord). is_reference u.pe u.cell v.pe v.cell) (that_is u.pe u.cell) in
          let two = counts (record_passes (is_reference u.partner u.cell)) (that_is u.partner u.cell) in
          let there = total_term (size c) (λ z. lane_on_way (is_reference u.partner u.cell) (lane_at after s z)) x hx in
          let first = same_tree s u.pe u.cell (omega (arith, hs)) old (λ i l. still_record u.pe u.cell s x i old hs hx l one) in
          let second = same_tree s u.partner u.cell (omega (arith, hs)) new (λ i l. still_lanes u.partner u.cell s i new hs (omega (arith, l, hs)) (omega (arith, two, there))) in
          record { old = rw (← first, ← second) h.1.old; new = rw (← first, ← second) h.1.new })
          (each_and (IsRecordAt c s x) (IsGiven c m is s) (lane_at after s x).records (routed.records s x hs hx)
          (rw (lane-reply_phase c m s x hs hx) (each_left (IsGiven c m is s) (lane_at m s x).records (arriving_reply c m s x) (f.records s x hs hx))))

      pub forest-reply_phase : IsForest c after ks is list
      forest-reply_phase = record {
        pending = λ p h. rw (element-reply_phase c m p h) (pending_said p (element_at m p) (delivered c m p) (f.pending p h));
        queued = λ s x hs hx. rw (lane-reply_phase c m s x hs hx) (queued_said s x hs hx);
        inputs = input_said;
        outputs = output_said;
        replies = replies_said;
        records = records_said;
      }
