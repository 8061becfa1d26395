-- The records of a reference are below the place of its message, at most one at a stage. There is
-- none where the message still has to come, or has been on its way back.
use Rattle.std.proofs.Common.{◌≡◌, ℕ, zero, suc, ◌+◌, ◌-◌, ◌<◌, ◌≤◌, List, [], ◌∷◌, Bool, true, false, refl, arith, sym, ◌∙◌, ap, subst, ◌⊎◌, ⊎_elim, inl, inr, length}
use Rattle.std.specs.Prelude.{Option, Some, None, IfSome, slice_get, ◌==◌, ◌&&◌, not, nat_lt}
use Rattle.std.specs.List.{AllByRecursion}
use Rattle.std.proofs.lemmas.Bool.{eqb-true, cases_lt, cases_Bool}
use Rattle.ultra_msg.specs.declared.{Request.Request, ReplyMessage.ReplyMessage}
use Rattle.ultra_route.specs.Route.{line_of}
use Rattle.ultra_switch.specs.{declared.{QueueEntry.QueueEntry, WaitRecord.WaitRecord}, Split.{is_of, records_after}, Queues.request_of}
use Rattle.ultra_switch.specs.Arrive.{Lane, Combination, entry, behind, can_combine, wait_record, combined_entry, combine, combine_within, after_arrival, arrive}
use Rattle.ultra_isa.specs.declared.Instr.{Instr}
use Rattle.ultra_model.specs.{Places.after_leaving, Ranges.AreInRange, Routed.{IsByLine, IsRecordAt, module_of, IsRouted}}
use Rattle.ultra_model.specs.Machine.{Settings, Machine, size, lane_at, replies_at, element_at, start}
use Rattle.ultra_model.specs.Phases.{records_left, arrive_all, arriving_reply, delivered, reply_phase, memory_phase, request_phase, processor_phase, leaving_request, lane_after_leaving, arrivals, next_lane}
use Rattle.ultra_model.specs.Balance.{weight, count, count_option, total, passes, reply_passes, lane_on_way, replies_on_way, pending_on_way, on_way, all_opened, IsBalanced}
use Rattle.ultra_model.proofs.{Each.if_tested, Counting.{both_true, is_reference, count-append}, Neighbours.itself, Routes.arriving_reply_well, AtPlaces.{lane-start, lane-reply_phase, lane-request_phase}}
use Rattle.ultra_model.proofs.Sums.{total_none, total_next, total_same, total_plus, total_only, total_halves}
use Rattle.ultra_model.proofs.ReplyBalance as replies
use Rattle.ultra_model.proofs.RequestBalance as requests
use Rattle.ultra_model.proofs.Balanced as balanced

-- ---- lists and sums
found_step : {X : Type 0} (P : X → Type 0) (t : X → Bool) (x : X) (xs : List X) (b : Bool) → t x ≡ b → P x → 1 ≤ weight b + count t xs → (1 ≤ count t xs → (x : X) × P x × (t x ≡ true)) → (x : X) × P x × (t x ≡ true)
found_step P t x xs true e h l rest = (x, h, e)
found_step P t x xs false e h l rest = rest (omega (arith, l))

-- one of those that pass
pub found : {X : Type 0} (P : X → Type 0) (t : X → Bool) (xs : List X) → AllByRecursion P xs → 1 ≤ count t xs → (x : X) × P x × (t x ≡ true)
found P t [] h l = absurd (omega (arith, l))
found P t (x ∷ xs) h l = found_step P t x xs (t x) refl h.0 l (λ k. found P t xs h.1 k)

-- the test for one reference passes that alone
pub is_that : (p a q b : ℕ) → is_reference p a q b ≡ true → (q ≡ p) × (b ≡ a)
is_that p a q b e = let parts = both_true (q == p) (b == a) e in (eqb-true q p parts.0, eqb-true b a parts.1)

pub that_is : (p a : ℕ) → is_reference p a p a ≡ true
that_is p a = rw (itself p, itself a) refl

pub zero_weight : (b : Bool) → weight b ≤ 0 → b ≡ false
zero_weight true h = absurd (omega (arith, h))
zero_weight false h = refl

pub total_longer : (n m : ℕ) (f : ℕ → ℕ) → n ≤ m → total n f ≤ total m f
total_longer n m f h =
    let halves = total_halves n (m - n) m f (omega arith) in
    omega (arith, halves)

pub total_most : (n : ℕ) (f g : ℕ → ℕ) → ((j : ℕ) → j < n → g j ≤ f j) → total n g ≤ total n f
total_most zero f g h = omega (arith, total_none f, total_none g)
total_most (suc n) f g h =
    let last = h n (omega arith) in
    let rest = total_most n f g (λ j a. h j (omega arith)) in
    omega (arith, total_next n f, total_next n g)

-- one term grows, and no other falls
pub total_gain : (n : ℕ) (f g : ℕ → ℕ) (k : ℕ) → k < n → ((j : ℕ) → j < n → g j ≤ f j) → total n g + f k ≤ total n f + g k
total_gain zero f g k h grows = absurd (omega (arith, h))
total_gain (suc n) f g k h grows =
    ⊎_elim (λ l.
    let rest = total_gain n f g k l (λ j a. grows j (omega arith)) in
    let last = grows n (omega arith) in
    omega (arith, total_next n f, total_next n g))
    (λ l.
    let same : k ≡ n = omega (arith, h, l) in
    let here : f k ≡ f n = ap f same in
    let there : g k ≡ g n = ap g same in
    let rest = total_most n f g (λ j a. grows j (omega arith)) in
    omega (arith, total_next n f, total_next n g)) (cases_lt k n)

-- ---- counts
-- the records whose old reference passes a test, and the marked entries
abbrev pub old_records : (ℕ → ℕ → Bool) → List WaitRecord → ℕ
old_records t ws = count (λ (w : WaitRecord). t w.pe w.cell) ws

abbrev pub is_marked : (ℕ → ℕ → Bool) → QueueEntry → Bool
is_marked t e = e.combined && t e.request.pe e.request.cell

abbrev pub marked_in : (ℕ → ℕ → Bool) → List QueueEntry → ℕ
marked_in t es = count (is_marked t) es

-- at a stage
module _ (t : ℕ → ℕ → Bool) (c : Settings) (m : Machine) where
  abbrev pub lanes_of : ℕ → ℕ
  lanes_of s = total (size c) (λ x. lane_on_way t (lane_at m s x))

  abbrev pub replies_of : ℕ → ℕ
  replies_of s = total (size c) (λ y. replies_on_way t (replies_at m s y))

  abbrev pub marked_of : ℕ → ℕ
  marked_of s = total (size c) (λ x. marked_in t (lane_at m s x).queue)

  abbrev pub pending_of : ℕ
  pending_of = total (size c) (λ p. pending_on_way t (element_at m p))

  -- the references whose message or record is at a stage up to s, or still waits
  abbrev pub up_to : ℕ → ℕ
  up_to s = pending_of + total (suc s) (λ i. lanes_of i) + total (suc s) (λ i. replies_of i)

  up_to_all : (s : ℕ) → s < c.stages → up_to s ≤ on_way t c m
  up_to_all s h =
      let lanes = total_longer (suc s) c.stages (λ i. lanes_of i) (omega arith) in
      let replies = total_longer (suc s) c.stages (λ i. replies_of i) (omega arith) in
      omega (arith, lanes, replies)

-- for each record of a reference at stage s, that one is beyond: marked at s, or farther on
pub record IsTidy (c : Settings) (m : Machine) : Type 0 where
  pub beyond : (p a s x : ℕ) → s < c.stages → x < size c
      → old_records (is_reference p a) (lane_at m s x).records + up_to (is_reference p a) c m s ≤ all_opened (is_reference p a) c m + marked_of (is_reference p a) c m s

-- ---- replies
module _ (t : ℕ → ℕ → Bool) where
  after_step : (r : ReplyMessage) (w : WaitRecord) (ws us : List WaitRecord) (b : Bool) → old_records t us ≤ old_records t ws → old_records t (elim b [ true ↦ ws | false ↦ w ∷ us ]) ≤ weight (t w.pe w.cell) + old_records t ws
  after_step r w ws us true h = omega arith
  after_step r w ws us false h = omega (arith, h)

  after_fewer : (r : ReplyMessage) (ws : List WaitRecord) → old_records t (records_after r ws) ≤ old_records t ws
  after_fewer r [] = omega arith
  after_fewer r (w ∷ ws) = after_step r w ws (records_after r ws) (is_of r w) (after_fewer r ws)

  left_fewer : (ws : List WaitRecord) (o : Option ReplyMessage) → old_records t (records_left ws o) ≤ old_records t ws
  left_fewer ws None = omega arith
  left_fewer ws (Some r) = after_fewer r ws

-- a reply takes a record of its reference, if there is one
taken_step : (p a : ℕ) (r : ReplyMessage) (w : WaitRecord) (ws us : List WaitRecord) (b : Bool) → is_reference p a r.pe r.cell ≡ true → is_of r w ≡ b
    → 1 ≤ weight (is_reference p a w.pe w.cell) + old_records (is_reference p a) ws
    → (1 ≤ old_records (is_reference p a) ws → old_records (is_reference p a) us + 1 ≤ old_records (is_reference p a) ws)
    → old_records (is_reference p a) (elim b [ true ↦ ws | false ↦ w ∷ us ]) + 1 ≤ weight (is_reference p a w.pe w.cell) + old_records (is_reference p a) ws
taken_step p a r w ws us true k e l h =
    let same = is_that p a r.pe r.cell k in
    let parts = both_true (w.pe == r.pe) (w.cell == r.cell) e in
    let here : is_reference p a w.pe w.cell ≡ true = rw (eqb-true w.pe r.pe parts.0, eqb-true w.cell r.cell parts.1) k in
    rw here (omega arith)
taken_step p a r w ws us false k e l h =
    let same = is_that p a r.pe r.cell k in
    let apart : is_reference p a w.pe w.cell ≡ false = rw (← same.0, ← same.1) e in
    let none : weight (is_reference p a w.pe w.cell) ≡ 0 = rw apart refl in
    let rest = h (omega (arith, l, none)) in
    omega (arith, rest, none)

taken_after : (p a : ℕ) (r : ReplyMessage) (ws : List WaitRecord) → is_reference p a r.pe r.cell ≡ true → 1 ≤ old_records (is_reference p a) ws → old_records (is_reference p a) (records_after r ws) + 1 ≤ old_records (is_reference p a) ws
taken_after p a r [] k l = absurd (omega (arith, l))
taken_after p a r (w ∷ ws) k l = taken_step p a r w ws (records_after r ws) (is_of r w) k refl l (λ j. taken_after p a r ws k j)

taken_if : (p a : ℕ) (r : ReplyMessage) (ws : List WaitRecord) (b : Bool) → is_reference p a r.pe r.cell ≡ b → 1 ≤ old_records (is_reference p a) ws → old_records (is_reference p a) (records_after r ws) + weight b ≤ old_records (is_reference p a) ws
taken_if p a r ws true k l = taken_after p a r ws k l
taken_if p a r ws false k l = omega (arith, after_fewer (is_reference p a) r ws)

taken : (p a : ℕ) (ws : List WaitRecord) (o : Option ReplyMessage) → 1 ≤ old_records (is_reference p a) ws → old_records (is_reference p a) (records_left ws o) + count_option (reply_passes (is_reference p a)) o ≤ old_records (is_reference p a) ws
taken p a ws None l = omega arith
taken p a ws (Some r) l = taken_if p a r ws (is_reference p a r.pe r.cell) refl l

module _ (c : Settings) (range : AreInRange c) (m : Machine) where
  module _ (t : ℕ → ℕ → Bool) where
    abbrev pub comes : ℕ → ℕ
    comes s = total (size c) (λ x. replies.arriving c range m t s x)

    abbrev pub goes : ℕ → ℕ
    goes s = total (size c) (λ y. replies.leaving c range m t s y)

    abbrev pub made : ℕ → ℕ
    made s = total (size c) (λ x. replies.made c range m t s x)

    pub lanes_row : (s : ℕ) → s < c.stages → lanes_of t c (reply_phase c m) s + made s ≡ lanes_of t c m s + comes s
    lanes_row s h =
        sym (total_plus (size c) (λ x. lane_on_way t (lane_at (reply_phase c m) s x)) (λ x. replies.made c range m t s x))
        ∙ (total_same (size c) _ _ (λ x l. replies.lane_step c range m t s x h l) ∙ total_plus (size c) (λ x. lane_on_way t (lane_at m s x)) (λ x. replies.arriving c range m t s x))

    pub replies_row : (s : ℕ) → s < c.stages → replies_of t c (reply_phase c m) s + goes s ≡ replies_of t c m s + made s
    replies_row s h =
        let after = total_plus (size c) (λ y. replies_on_way t (replies_at (reply_phase c m) s y)) (λ y. replies.leaving c range m t s y) in
        let before = total_plus (size c) (λ y. replies_on_way t (replies_at m s y)) (λ y. replies.exits_at c range m t s y) in
        let each = total_same (size c) (λ y. replies_on_way t (replies_at (reply_phase c m) s y) + replies.leaving c range m t s y) (λ y. replies_on_way t (replies_at m s y) + replies.exits_at c range m t s y) (λ y l. replies.queue_step c range m t s y h l) in
        omega (arith, after, before, each, replies.exits_all c range m t s)

    -- what comes to the stages up to one is what comes to that from beyond, but for what is delivered
    rows_up_to : (s : ℕ) → s < c.stages
        → total (suc s) (λ i. lanes_of t c (reply_phase c m) i) + total (suc s) (λ i. replies_of t c (reply_phase c m) i) + goes 0
        ≡ total (suc s) (λ i. lanes_of t c m i) + total (suc s) (λ i. replies_of t c m i) + comes s
    rows_up_to zero h =
        let one = lanes_row 0 h in
        let two = replies_row 0 h in
        omega (
          arith,
          one,
          two,
          total_next 0 (λ i. lanes_of t c (reply_phase c m) i),
          total_next 0 (λ i. replies_of t c (reply_phase c m) i),
          total_next 0 (λ i. lanes_of t c m i),
          total_next 0 (λ i. replies_of t c m i),
          total_none (λ i. lanes_of t c (reply_phase c m) i),
          total_none (λ i. replies_of t c (reply_phase c m) i),
          total_none (λ i. lanes_of t c m i),
          total_none (λ i. replies_of t c m i),
        )
    rows_up_to (suc s) h =
        let rest = rows_up_to s (omega arith) in
        let one = lanes_row (suc s) h in
        let two = replies_row (suc s) h in
        let less : suc s ≡ s + 1 = omega arith in
        let passed : goes (suc s) ≡ comes s = ap goes less ∙ replies.leaving_all c range m t s in
        omega (arith, rest, one, two, passed, total_next (suc s) (λ i. lanes_of t c (reply_phase c m) i), total_next (suc s) (λ i. replies_of t c (reply_phase c m) i), total_next (suc s) (λ i. lanes_of t c m i), total_next (suc s) (λ i. replies_of t c m i))

    up_to_replied : (s : ℕ) → s < c.stages → up_to t c (reply_phase c m) s + total (size c) (λ p. count_option (reply_passes t) (delivered c m p)) ≡ up_to t c m s + comes s
    up_to_replied s h = omega (arith, rows_up_to s h, replies.all_pending c range m t, replies.all_delivered c range m t)

    marked_replied : (s : ℕ) → s < c.stages → marked_of t c (reply_phase c m) s ≡ marked_of t c m s
    marked_replied s h = total_same (size c) _ _ (λ x l. rw (lane-reply_phase c m s x h l) refl)

  module _ (w : IsRouted c m) (b : IsBalanced c m) where
    -- the records of a reference at a stage are in one wait buffer
    pub record_line : (p a s x : ℕ) → s < c.stages → x < size c → 1 ≤ old_records (is_reference p a) (lane_at m s x).records → line_of c.stages (s + 1) p (module_of c a) ≡ x
    record_line p a s x hs hx l =
        let one = found (IsRecordAt c s x) (λ (u : WaitRecord). is_reference p a u.pe u.cell) (lane_at m s x).records (w.records s x hs hx) l in
        let that = is_that p a one.0.pe one.0.cell one.2 in
        subst (λ (q : ℕ). line_of c.stages (s + 1) q (module_of c a) ≡ x) that.0 (subst (λ (v : ℕ). line_of c.stages (s + 1) one.0.pe (module_of c v) ≡ x) that.1 one.1.0.line)

    arriving_line_if : (p a s x : ℕ) (o : Option ReplyMessage) → IfSome o (λ r. IsByLine c s x r.pe r.cell) → 1 ≤ count_option (reply_passes (is_reference p a)) o → line_of c.stages (s + 1) p (module_of c a) ≡ x
    arriving_line_if p a s x None h l = absurd (omega (arith, l))
    arriving_line_if p a s x (Some r) h l =
        ⊎_elim (λ e. let that = is_that p a r.pe r.cell e in rw (← that.0, ← that.1) h.line)
        (λ e. absurd (omega (arith, l, rw e at l))) (cases_Bool (is_reference p a r.pe r.cell))

    -- a reply that arrives, too
    pub arriving_line : (p a s x : ℕ) → s < c.stages → x < size c → 1 ≤ replies.arriving c range m (is_reference p a) s x → line_of c.stages (s + 1) p (module_of c a) ≡ x
    arriving_line p a s x hs hx l = arriving_line_if p a s x (arriving_reply c m s x) (arriving_reply_well c range m w s x hs hx) l

    comes_by : (p a s x : ℕ) → s < c.stages → x < size c → line_of c.stages (s + 1) p (module_of c a) ≡ x → comes (is_reference p a) s ≡ replies.arriving c range m (is_reference p a) s x
    comes_by p a s x hs hx line =
        total_only (size c) (λ z. replies.arriving c range m (is_reference p a) s z) x hx
        (λ z hz apart. ⊎_elim (λ l. omega (arith, l)) (λ l. absurd (apart (sym (arriving_line p a s z hs hz l) ∙ line))) (cases_lt (replies.arriving c range m (is_reference p a) s z) 1))

    tidy_replied : IsTidy c m → (p a s x : ℕ) → s < c.stages → x < size c
        → (old_records (is_reference p a) (lane_at (reply_phase c m) s x).records < 1) ⊎ (1 ≤ old_records (is_reference p a) (lane_at (reply_phase c m) s x).records)
        → old_records (is_reference p a) (lane_at (reply_phase c m) s x).records + up_to (is_reference p a) c (reply_phase c m) s ≤ all_opened (is_reference p a) c (reply_phase c m) + marked_of (is_reference p a) c (reply_phase c m) s
    tidy_replied y p a s x hs hx (inl l) =
        let t = is_reference p a in
        let all = up_to_all t c (reply_phase c m) s hs in
        let after = (replies.balanced-reply_phase c range m w b).balanced t in
        omega (arith, l, all, after)
    tidy_replied y p a s x hs hx (inr l) =
        let t = is_reference p a in
        let ws = (lane_at m s x).records in
        let o = arriving_reply c m s x in
        let now : old_records t (lane_at (reply_phase c m) s x).records ≡ old_records t (records_left ws o) = rw (lane-reply_phase c m s x hs hx) refl in
        let some : 1 ≤ old_records t ws = omega (arith, l, now, left_fewer t ws o) in
        let line = record_line p a s x hs hx some in
        let come = comes_by p a s x hs hx line in
        let took = taken p a ws o some in
        let was = y.beyond p a s x hs hx in
        let closed = replies.all_closed c range m w b t in
        omega (arith, now, come, took, was, closed, up_to_replied t s hs, marked_replied t s hs)

    pub tidy-reply_phase : IsTidy c m → IsTidy c (reply_phase c m)
    tidy-reply_phase y = record { beyond = λ p a s x hs hx. tidy_replied y p a s x hs hx (cases_lt (old_records (is_reference p a) (lane_at (reply_phase c m) s x).records) 1) }

-- ---- requests
unmarked_is : (b d : Bool) → not b ≡ true → weight (b && d) ≡ 0
unmarked_is true d h = cc
unmarked_is false d h = refl

pub marked_weight : (b d : Bool) → weight (b && d) ≤ weight d
marked_weight true d = omega arith
marked_weight false d = omega arith

-- a combination marks one entry, and keeps a record of its reference
module _ (t : ℕ → ℕ → Bool) where
  abbrev MarksWell : List QueueEntry → Option Combination → Type 0
  MarksWell es o = IfSome o (λ c. marked_in t c.queue ≡ marked_in t es + weight (t c.old.request.pe c.old.request.cell))

  behind_marks : (e : QueueEntry) (es : List QueueEntry) (o : Option Combination) → MarksWell es o → MarksWell (e ∷ es) (behind e o)
  behind_marks e es None h = tt
  behind_marks e es (Some c) h = omega (arith, h)

  unmarked_before : (e : QueueEntry) (r : Request) → can_combine r e ≡ true → weight (is_marked t e) ≡ 0
  unmarked_before e r h = unmarked_is e.combined (t e.request.pe e.request.cell) (both_true (not e.combined) (e.request.cell == r.cell) h).0

  combine_marks : (r : Request) (es : List QueueEntry) → MarksWell es (combine r es)
  combine_marks r [] = tt
  combine_marks r (e ∷ es) =
      if_tested (can_combine r e) (λ o. MarksWell (e ∷ es) o) (Some record { queue = combined_entry e r ∷ es; old = e }) (behind e (combine r es))
      (λ z. omega (arith, unmarked_before e r z))
      (λ z. behind_marks e es (combine r es) (combine_marks r es))

  within_marks : (w : ℕ) (l : Lane) (r : Request) → MarksWell l.queue (combine_within w l r)
  within_marks w l r = if_tested (nat_lt (length l.records) w) (λ o. MarksWell l.queue o) (combine r l.queue) None (λ z. combine_marks r l.queue) (λ z. tt)

  arrived_marks : (l : Lane) (r : Request) (o : Option Combination) → MarksWell l.queue o → old_records t (after_arrival l r o).records + marked_in t l.queue ≡ old_records t l.records + marked_in t (after_arrival l r o).queue
  arrived_marks l r None h = omega (arith, count-append (is_marked t) l.queue (entry r false ∷ []))
  arrived_marks l r (Some c) h = omega (arith, h, count-append (λ (w : WaitRecord). t w.pe w.cell) l.records (wait_record c.old r ∷ []))

  pub arrive_all_marks : (w : ℕ) (l : Lane) (rs : List Request) → old_records t (arrive_all w l rs).records + marked_in t l.queue ≡ old_records t l.records + marked_in t (arrive_all w l rs).queue
  arrive_all_marks w l [] = refl
  arrive_all_marks w l (r ∷ rs) =
      let rest = arrive_all_marks w (arrive w l r) rs in
      let one = arrived_marks l r (combine_within w l r) (within_marks w l r) in
      omega (arith, rest, one)

  -- marks only come
  arrived_more : (l : Lane) (r : Request) (o : Option Combination) → MarksWell l.queue o → marked_in t l.queue ≤ marked_in t (after_arrival l r o).queue
  arrived_more l r None h = omega (arith, count-append (is_marked t) l.queue (entry r false ∷ []))
  arrived_more l r (Some c) h = omega (arith, h)

  pub arrive_all_more : (w : ℕ) (l : Lane) (rs : List Request) → marked_in t l.queue ≤ marked_in t (arrive_all w l rs).queue
  arrive_all_more w l [] = omega arith
  arrive_all_more w l (r ∷ rs) =
      let rest = arrive_all_more w (arrive w l r) rs in
      let one = arrived_more l r (combine_within w l r) (within_marks w l r) in
      omega (arith, rest, one)

  -- a marked entry that leaves is one of the requests that leave
  marked_leaving : (o : Option Request) (q : List QueueEntry) → (o ≡ request_of (slice_get q 0)) ⊎ (o ≡ None) → marked_in t q ≤ marked_in t (after_leaving o q) + count_option (passes t) o
  marked_leaving o [] e = omega arith
  marked_leaving o (x ∷ xs) (inl e) = rw e (omega (arith, marked_weight x.combined (t x.request.pe x.request.cell)))
  marked_leaving o (x ∷ xs) (inr e) = rw e (omega arith)

module _ (c : Settings) (range : AreInRange c) (m : Machine) where
  module _ (t : ℕ → ℕ → Bool) where
    abbrev enters : ℕ → ℕ
    enters s = total (size c) (λ y. requests.arriving c range m t s y)

    abbrev leaves : ℕ → ℕ
    leaves s = total (size c) (λ x. requests.leaving c range m t s x)

    request_row : (s : ℕ) → s < c.stages → lanes_of t c (request_phase c m) s + leaves s ≡ lanes_of t c m s + enters s
    request_row s h =
        let after = total_plus (size c) (λ x. lane_on_way t (lane_at (request_phase c m) s x)) (λ x. requests.leaving c range m t s x) in
        let before = total_plus (size c) (λ x. lane_on_way t (lane_at m s x)) (λ x. requests.arrivals_at c range m t s x) in
        let each = total_same (size c) (λ x. lane_on_way t (lane_at (request_phase c m) s x) + requests.leaving c range m t s x) (λ x. lane_on_way t (lane_at m s x) + requests.arrivals_at c range m t s x) (λ x l. requests.lane_step c range m t s x h l) in
        omega (arith, after, before, each, requests.arrivals_all c range m t s)

    -- what leaves a stage is beyond it
    request_rows : (s : ℕ) → s < c.stages → total (suc s) (λ i. lanes_of t c (request_phase c m) i) + leaves s ≡ total (suc s) (λ i. lanes_of t c m i) + enters 0
    request_rows zero h =
        let one = request_row 0 h in
        omega (arith, one, total_next 0 (λ i. lanes_of t c (request_phase c m) i), total_next 0 (λ i. lanes_of t c m i), total_none (λ i. lanes_of t c (request_phase c m) i), total_none (λ i. lanes_of t c m i))
    request_rows (suc s) h =
        let rest = request_rows s (omega arith) in
        let one = request_row (suc s) h in
        let less : suc s ≡ s + 1 = omega arith in
        let passed : leaves s ≡ enters (suc s) = requests.leaving_all c range m t s (omega arith) ∙ sym (ap enters less) in
        omega (arith, rest, one, passed, total_next (suc s) (λ i. lanes_of t c (request_phase c m) i), total_next (suc s) (λ i. lanes_of t c m i))

    replies_requested : (s : ℕ) → total (suc s) (λ i. replies_of t c (request_phase c m) i) ≡ total (suc s) (λ i. replies_of t c m i)
    unfolding request_phase
    replies_requested s = refl

    up_to_requested : (s : ℕ) → s < c.stages → up_to t c (request_phase c m) s + leaves s ≡ up_to t c m s
    up_to_requested s h = omega (arith, request_rows s h, requests.all_pending c range m t, replies_requested s)

    -- the marks of a stage that some requests leave
    abbrev marked_left : ℕ → ℕ
    marked_left s = total (size c) (λ x. marked_in t (lane_after_leaving c m s x).queue)

    marks_leave : (s : ℕ) → s < c.stages → marked_of t c m s ≤ marked_left s + leaves s
    marks_leave s h =
        let sum = total_plus (size c) (λ x. marked_in t (lane_after_leaving c m s x).queue) (λ x. requests.leaving c range m t s x) in
        let each = total_most (size c) (λ x. marked_in t (lane_after_leaving c m s x).queue + requests.leaving c range m t s x) (λ x. marked_in t (lane_at m s x).queue)
        (λ x l. marked_leaving t (leaving_request c m s x) (lane_at m s x).queue (requests.leaving_head c range m s x h l)) in
        omega (arith, sum, each)

    marks_come : (s x : ℕ) → s < c.stages → x < size c → marked_left s + marked_in t (next_lane c m s x).queue ≤ marked_of t c (request_phase c m) s + marked_in t (lane_after_leaving c m s x).queue
    marks_come s x hs hx =
        let gain = total_gain (size c) (λ z. marked_in t (next_lane c m s z).queue) (λ z. marked_in t (lane_after_leaving c m s z).queue) x hx (λ z hz. arrive_all_more t c.wait_places (lane_after_leaving c m s z) (arrivals c m s z)) in
        let now : marked_of t c (request_phase c m) s ≡ total (size c) (λ z. marked_in t (next_lane c m s z).queue) = total_same (size c) _ _ (λ z hz. rw (lane-request_phase c m s z hs hz) refl) in
        omega (arith, gain, now)

  pub tidy-request_phase : IsTidy c m → IsTidy c (request_phase c m)
  tidy-request_phase y = record {
    beyond = λ p a s x hs hx.
        let t = is_reference p a in
        let was = y.beyond p a s x hs hx in
        let marks = arrive_all_marks t c.wait_places (lane_after_leaving c m s x) (arrivals c m s x) in
        let now : old_records t (lane_at (request_phase c m) s x).records ≡ old_records t (next_lane c m s x).records = rw (lane-request_phase c m s x hs hx) refl in
        omega (arith, was, marks, now, up_to_requested t s hs, marks_leave t s hs, marks_come t s x hs hx, requests.all_opened_as_before c range m t);
  }

-- ---- the other phases
module _ (c : Settings) where
  pub tidy-memory_phase : (m : Machine) → IsTidy c m → IsTidy c (memory_phase c m)
  unfolding memory_phase
  tidy-memory_phase m y = record { beyond = y.beyond }

  processed : (program : List Instr) (m : Machine) → IsTidy c m → (p a s x : ℕ) → s < c.stages → x < size c
      → old_records (is_reference p a) (lane_at (processor_phase c program m) s x).records + up_to (is_reference p a) c (processor_phase c program m) s ≤ all_opened (is_reference p a) c (processor_phase c program m) + marked_of (is_reference p a) c (processor_phase c program m) s
  unfolding processor_phase
  processed program m y p a s x hs hx = omega (arith, y.beyond p a s x hs hx, balanced.all_elements c program m (is_reference p a))

  pub tidy-processor_phase : (program : List Instr) (m : Machine) → IsTidy c m → IsTidy c (processor_phase c program m)
  tidy-processor_phase program m y = record { beyond = λ p a s x hs hx. processed program m y p a s x hs hx }

  pub tidy-start : IsTidy c (start c)
  tidy-start = record {
    beyond = λ p a s x hs hx.
        let t = is_reference p a in
        let none : old_records t (lane_at (start c) s x).records ≡ 0 = rw (lane-start c s x hs hx) refl in
        let all = up_to_all t c (start c) s hs in
        omega (arith, none, all, (balanced.balanced-start c).balanced t);
  }
