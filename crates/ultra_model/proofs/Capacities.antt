-- every phase keeps the capacities, and what there is room for inside a phase
use Rattle.std.proofs.Common.{◌≡◌, ℕ, ◌+◌, ◌*◌, ◌/◌, ◌%◌, ◌≤◌, ◌<◌, List, [], ◌∷◌, ◌++◌, Bool, true, false, refl, arith, ap, length, cond, drop, length-append, ◌⊎◌, ⊎_elim, inl, inr}
use Rattle.std.specs.Prelude.{Option, Some, None, IfSome, ◌==◌, nat_lt, nat_le}
use Rattle.std.specs.List.{filter}
use Rattle.std.proofs.lemmas.Bool.{eqb-true, cases_lt, Decides.nat_tests}
use Rattle.ultra_msg.specs.declared.{Request.Request, ReplyMessage.ReplyMessage}
use Rattle.ultra_switch.specs.{declared.{QueueEntry.QueueEntry, WaitRecord.WaitRecord}, Split.{is_of, records_after, replies_of}}
use Rattle.ultra_switch.specs.Arrive.{Lane, Combination, entry, behind, can_combine, wait_record, combine, combine_within, after_arrival, arrive}
use Rattle.ultra_pni.specs.{declared.OpenCell.OpenCell, Interface.{Interface, closed}}
use Rattle.ultra_isa.specs.{declared.Instr.Instr, Instruction.Site}
use Rattle.ultra_isa.proofs.Steps.{SendsInto, step_is}
use Rattle.ultra_model.specs.{Places.after_leaving, Capacity.IsWithinCapacity}
use Rattle.ultra_model.specs.Machine.{Settings, Machine, Element, site, start, lane_at, replies_at, element_at, reply_exit, request_exit}
use Rattle.ultra_model.specs.Phases.{deliver, records_left, replies_made, arrive_all, has_reply_room, arriving_reply, reply_before, leaving_reply, replies_at_exit, next_replies, delivered, reply_phase, memory_phase, has_request_room, request_before, admitted, arriving_request, requests_by, arrivals_by, arrivals, leaving_request, lane_after_leaving, request_phase, step_at, processor_phase}
use Rattle.ultra_model.proofs.{Each.if_tested, Counting.both_true}
use Rattle.ultra_model.proofs.AtPlaces.{lane-start, replies-start, element-start, lane-reply_phase, replies-reply_phase, element-reply_phase, lane-request_phase, element-request_phase, element-processor_phase}

-- ---- lists
le_true : (a b : ℕ) → nat_le a b ≡ true → a ≤ b
le_true a b h = grind (arith, nat_tests)

lt_true : (a b : ℕ) → nat_lt a b ≡ true → a < b
lt_true a b h = grind (arith, nat_tests)

drop_shorter : {X : Type 0} (xs : List X) → length (drop 1 xs) ≤ length xs
drop_shorter [] = omega arith
drop_shorter (x ∷ xs) = omega arith

pub after_leaving_shorter : {X Y : Type 0} (o : Option Y) (xs : List X) → length (after_leaving o xs) ≤ length xs
after_leaving_shorter None xs = omega arith
after_leaving_shorter (Some y) xs = drop_shorter xs

filter_step : {X : Type 0} (b : Bool) (x : X) (ys : List X) (n : ℕ) → length ys ≤ n → length (cond b (x ∷ ys) ys) ≤ n + 1
filter_step true x ys n h = omega (arith, h)
filter_step false x ys n h = omega (arith, h)

filter_shorter : {X : Type 0} (p : X → Bool) (xs : List X) → length (filter p xs) ≤ length xs
filter_shorter p [] = omega arith
filter_shorter p (x ∷ xs) = let h = filter_step (p x) x (filter p xs) (length xs) (filter_shorter p xs) in omega (arith, h)

-- ---- places
-- a reply becomes at most two, and takes no place in the wait buffer
replies_of_two : (m : ReplyMessage) (ws : List WaitRecord) → length (replies_of m ws) ≤ 2
replies_of_two m [] = omega arith
replies_of_two m (w ∷ ws) = if_tested (is_of m w) (λ (rs : List ReplyMessage). length rs ≤ 2) _ _ (λ z. omega arith) (λ z. replies_of_two m ws)

made_two : (ws : List WaitRecord) (o : Option ReplyMessage) → length (replies_made ws o) ≤ 2
made_two ws None = omega arith
made_two ws (Some m) = replies_of_two m ws

records_shorter : (m : ReplyMessage) (ws : List WaitRecord) → length (records_after m ws) ≤ length ws
records_shorter m [] = omega arith
records_shorter m (w ∷ ws) = if_tested (is_of m w) (λ (us : List WaitRecord). length us ≤ length (w ∷ ws)) _ _ (λ z. omega arith) (λ z. let rest = records_shorter m ws in omega (arith, rest))

left_shorter : (ws : List WaitRecord) (o : Option ReplyMessage) → length (records_left ws o) ≤ length ws
left_shorter ws None = omega arith
left_shorter ws (Some m) = records_shorter m ws

-- a combination takes no place in the queue
abbrev SameLength : List QueueEntry → Option Combination → Type 0
SameLength es o = IfSome o (λ c. length c.queue ≡ length es)

behind_length : (e : QueueEntry) (es : List QueueEntry) (o : Option Combination) → SameLength es o → SameLength (e ∷ es) (behind e o)
behind_length e es None h = tt
behind_length e es (Some c) h = omega (arith, h)

combine_length : (r : Request) (es : List QueueEntry) → SameLength es (combine r es)
combine_length r [] = tt
combine_length r (e ∷ es) = if_tested (can_combine r e) (λ o. SameLength (e ∷ es) o) _ _ (λ z. refl) (λ z. behind_length e es (combine r es) (combine_length r es))

within_length : (w : ℕ) (l : Lane) (r : Request) → SameLength l.queue (combine_within w l r)
within_length w l r = if_tested (nat_lt (length l.records) w) (λ o. SameLength l.queue o) _ _ (λ z. combine_length r l.queue) (λ z. tt)

arrived_queue : (l : Lane) (r : Request) (o : Option Combination) → SameLength l.queue o → length (after_arrival l r o).queue ≤ length l.queue + 1
arrived_queue l r None h = omega (arith, length-append l.queue (entry r false ∷ []))
arrived_queue l r (Some c) h = omega (arith, h)

pub arrive_queue : (w : ℕ) (l : Lane) (r : Request) → length (arrive w l r).queue ≤ length l.queue + 1
arrive_queue w l r = arrived_queue l r (combine_within w l r) (within_length w l r)

pub arrive_all_queue : (w : ℕ) (l : Lane) (rs : List Request) → length (arrive_all w l rs).queue ≤ length l.queue + length rs
arrive_all_queue w l [] = omega arith
arrive_all_queue w l (r ∷ rs) = omega (arith, arrive_all_queue w (arrive w l r) rs, arrive_queue w l r)

-- a record is kept only where the wait buffer has a place for it
arrived_records : (w : ℕ) (l : Lane) (r : Request) (o : Option Combination) → length l.records < w → length (after_arrival l r o).records ≤ w
arrived_records w l r None h = omega (arith, h)
arrived_records w l r (Some c) h = omega (arith, h, length-append l.records (wait_record c.old r ∷ []))

pub arrive_records : (w : ℕ) (l : Lane) (r : Request) → length l.records ≤ w → length (arrive w l r).records ≤ w
arrive_records w l r h =
    if_tested (nat_lt (length l.records) w) (λ o. length (after_arrival l r o).records ≤ w) (combine r l.queue) None
    (λ z. arrived_records w l r (combine r l.queue) (lt_true _ _ z))
    (λ z. h)

pub arrive_all_records : (w : ℕ) (l : Lane) (rs : List Request) → length l.records ≤ w → length (arrive_all w l rs).records ≤ w
arrive_all_records w l [] h = h
arrive_all_records w l (r ∷ rs) h = arrive_all_records w (arrive w l r) rs (arrive_records w l r h)

-- a delivery opens no cell, and a step at most one, where there is room
closed_shorter : (a : ℕ) (os : List OpenCell) → length (closed a os) ≤ length os
closed_shorter a [] = omega arith
closed_shorter a (o ∷ os) = if_tested (o.cell == a) (λ (us : List OpenCell). length us ≤ length (o ∷ os)) _ _ (λ z. omega arith) (λ z. let rest = closed_shorter a os in omega (arith, rest))

delivered_opened : (e : Element) (o : Option ReplyMessage) → length (deliver e o).interface.opened ≤ length e.interface.opened
delivered_opened e None = omega arith
delivered_opened e (Some r) = closed_shorter r.cell e.interface.opened

sends_opened : (s : Site) (most : ℕ) (i j : Interface) (o : Option Request) → SendsInto s most i j o → length i.opened ≤ most → length j.opened ≤ most
sends_opened s most i j None e h = rw e h
sends_opened s most i j (Some r) k h =
    let room = k.3 in
    rw k.4.1 (omega (arith, room, length-append i.opened (record { cell = r.cell; target = k.4.0 } ∷ [])))

-- ---- room inside a phase
pub which_port : (y : ℕ) → (y ≡ 2 * (y / 2)) ⊎ (y ≡ 2 * (y / 2) + 1)
which_port y = ⊎_elim (λ e. inl (omega (arith, e))) (λ e. inr (omega (arith, e))) (cases_lt (y % 2) 1)

module _ (c : Settings) where
  -- ---- replies
  room_at : (m : Machine) (s y : ℕ) → has_reply_room c m s (y / 2) ≡ true → length (replies_at m s y) + 4 ≤ c.reply_places
  room_at m s y h =
      let zero_at = length (replies_at m s (2 * (y / 2))) + 4 in
      let one_at = length (replies_at m s (2 * (y / 2) + 1)) + 4 in
      let rooms = both_true (nat_le zero_at c.reply_places) (nat_le one_at c.reply_places) h in
      let zero = le_true zero_at c.reply_places rooms.0 in
      let one = le_true one_at c.reply_places rooms.1 in
      ⊎_elim (λ e. let same : length (replies_at m s y) ≡ length (replies_at m s (2 * (y / 2))) = ap (λ z. length (replies_at m s z)) e in omega (arith, zero, same))
      (λ e. let same : length (replies_at m s y) ≡ length (replies_at m s (2 * (y / 2) + 1)) = ap (λ z. length (replies_at m s z)) e in omega (arith, one, same))
      (which_port y)

  -- where the switch has room at the phase's start, there are four free places after the head has left
  pub reply_room : (m : Machine) (s y : ℕ) → has_reply_room c m s (y / 2) ≡ true → length (after_leaving (leaving_reply c m s y) (replies_at m s y)) + 4 ≤ c.reply_places
  reply_room m s y h = omega (arith, room_at m s y h, after_leaving_shorter (leaving_reply c m s y) (replies_at m s y))

  -- of the reply that comes to a position at most two leave by another
  pub exit_two : (m : Machine) (s x y : ℕ) → length (replies_at_exit c m s x y) ≤ 2
  exit_two m s x y =
      let made = made_two (lane_at m s x).records (arriving_reply c m s x) in
      let kept = filter_shorter (λ r. reply_exit c s x r == y) (replies_made (lane_at m s x).records (arriving_reply c m s x)) in
      omega (arith, made, kept)

  -- where it hasn't, nothing comes
  pub no_reply_comes : (m : Machine) (s x : ℕ) → has_reply_room c m s (x / 2) ≡ false → arriving_reply c m s x ≡ None
  unfolding arriving_reply
  no_reply_comes m s x h = let f : Bool → Option ReplyMessage = λ b. elim b [ true ↦ reply_before c m s x | false ↦ None ] in ap f h

  no_exit : (m : Machine) (s x y : ℕ) → has_reply_room c m s (x / 2) ≡ false → replies_at_exit c m s x y ≡ []
  no_exit m s x y h = rw (no_reply_comes m s x h) refl

  reply_room_by : (m : Machine) (s y : ℕ) → length (replies_at m s y) ≤ c.reply_places → (b : Bool) → has_reply_room c m s (y / 2) ≡ b → length (next_replies c m s y) ≤ c.reply_places
  reply_room_by m s y h true e =
      let room = reply_room m s y e in
      let zero = exit_two m s (2 * (y / 2)) y in
      let one = exit_two m s (2 * (y / 2) + 1) y in
      simp length-append (omega (arith, room, zero, one))
  reply_room_by m s y h false e =
      let even : 2 * (y / 2) / 2 ≡ y / 2 = omega arith in
      let odd : (2 * (y / 2) + 1) / 2 ≡ y / 2 = omega arith in
      let zero = no_exit m s (2 * (y / 2)) y (rw even e) in
      let one = no_exit m s (2 * (y / 2) + 1) y (rw odd e) in
      let less = after_leaving_shorter (leaving_reply c m s y) (replies_at m s y) in
      rw (zero, one) (simp length-append (omega (arith, h, less)))

  pub replies_within : (m : Machine) (s y : ℕ) → length (replies_at m s y) ≤ c.reply_places → length (next_replies c m s y) ≤ c.reply_places
  replies_within m s y h = reply_room_by m s y h (has_reply_room c m s (y / 2)) refl

  -- ---- requests
  pub request_room : (m : Machine) (s x : ℕ) → has_request_room c m s x ≡ true → length (lane_after_leaving c m s x).queue + 2 ≤ c.request_places
  request_room m s x h = omega (arith, le_true _ _ h, after_leaving_shorter (leaving_request c m s x) (lane_at m s x).queue)

  -- nothing goes to a queue that has no room
  not_both : (b : Bool) → b ≡ true → b ≡ false → ⊥
  not_both true e f = cc
  not_both false e f = cc

  none_by : (m : Machine) (s y x : ℕ) (r : Request) (b : Bool) → has_request_room c m s x ≡ false → has_request_room c m s (request_exit c s y r) ≡ b → requests_by c s y x (elim b [ true ↦ Some r | false ↦ None ]) ≡ []
  none_by m s y x r false none e = refl
  none_by m s y x r true none e =
      if_tested (request_exit c s y r == x) (λ (rs : List Request). rs ≡ []) _ _
      (λ z. let same : request_exit c s y r ≡ x = eqb-true _ _ z in
      absurd (not_both (has_request_room c m s x) (rw (← same) e) none))
      (λ z. refl)

  none_admitted : (m : Machine) (s y x : ℕ) (o : Option Request) → has_request_room c m s x ≡ false → requests_by c s y x (admitted c m s y o) ≡ []
  none_admitted m s y x None none = refl
  none_admitted m s y x (Some r) none = none_by m s y x r (has_request_room c m s (request_exit c s y r)) none refl

  pub no_request_comes : (m : Machine) (s y x : ℕ) → has_request_room c m s x ≡ false → arrivals_by c m s y x ≡ []
  unfolding arriving_request
  no_request_comes m s y x none = none_admitted m s y x (request_before c m s y) none

  one_by : (s y x : ℕ) (o : Option Request) → length (requests_by c s y x o) ≤ 1
  one_by s y x None = omega arith
  one_by s y x (Some r) = if_tested (request_exit c s y r == x) (λ (rs : List Request). length rs ≤ 1) _ _ (λ z. omega arith) (λ z. omega arith)

  either_way : (b : Bool) (n : ℕ) (xs ys : List Request) → length xs + length ys ≤ n → length {A = Request} (elim b [ true ↦ xs ++ ys | false ↦ ys ++ xs ]) ≤ n
  either_way true n xs ys h = simp length-append (omega (arith, h))
  either_way false n xs ys h = simp length-append (omega (arith, h))

  arrivals_by_room : (m : Machine) (s x : ℕ) → length (lane_at m s x).queue ≤ c.request_places → (b : Bool) → has_request_room c m s x ≡ b
      → length (lane_after_leaving c m s x).queue + (length (arrivals_by c m s (2 * (x / 2)) x) + length (arrivals_by c m s (2 * (x / 2) + 1) x)) ≤ c.request_places
  arrivals_by_room m s x h true e =
      let room = request_room m s x e in
      let zero = one_by s (2 * (x / 2)) x (arriving_request c m s (2 * (x / 2))) in
      let one = one_by s (2 * (x / 2) + 1) x (arriving_request c m s (2 * (x / 2) + 1)) in
      omega (arith, room, zero, one)
  arrivals_by_room m s x h false e =
      let zero = no_request_comes m s (2 * (x / 2)) x e in
      let one = no_request_comes m s (2 * (x / 2) + 1) x e in
      let less = after_leaving_shorter (leaving_request c m s x) (lane_at m s x).queue in
      rw (zero, one) (omega (arith, h, less))

  -- each arrival finds a free place
  pub arrivals_fit : (m : Machine) (s x : ℕ) → length (lane_at m s x).queue ≤ c.request_places → length (lane_after_leaving c m s x).queue + length (arrivals c m s x) ≤ c.request_places
  arrivals_fit m s x h =
      let room = arrivals_by_room m s x h (has_request_room c m s x) refl in
      let zero = arrivals_by c m s (2 * (x / 2)) x in
      let one = arrivals_by c m s (2 * (x / 2) + 1) x in
      let all = either_way (m.cycles % 2 == 0) (length zero + length one) zero one (omega arith) in
      omega (arith, room, all)

  -- ---- the phases
  pub within-start : IsWithinCapacity c (start c)
  within-start = record {
    requests = λ s x hs hx. rw (lane-start c s x hs hx) (omega arith);
    records = λ s x hs hx. rw (lane-start c s x hs hx) (omega arith);
    replies = λ s y hs hy. rw (replies-start c s y hs hy) (omega arith);
    opened = λ p h. rw (element-start c p h) (omega arith);
  }

  pub within-reply_phase : (m : Machine) → IsWithinCapacity c m → IsWithinCapacity c (reply_phase c m)
  within-reply_phase m w = record {
    requests = λ s x hs hx. rw (lane-reply_phase c m s x hs hx) (w.requests s x hs hx);
    records = λ s x hs hx. rw (lane-reply_phase c m s x hs hx) (omega (arith, w.records s x hs hx, left_shorter (lane_at m s x).records (arriving_reply c m s x)));
    replies = λ s y hs hy. rw (replies-reply_phase c m s y hs hy) (replies_within m s y (w.replies s y hs hy));
    opened = λ p h. rw (element-reply_phase c m p h) (omega (arith, w.opened p h, delivered_opened (element_at m p) (delivered c m p)));
  }

  pub within-memory_phase : (m : Machine) → IsWithinCapacity c m → IsWithinCapacity c (memory_phase c m)
  unfolding memory_phase
  within-memory_phase m w = record { requests = w.requests; records = w.records; replies = w.replies; opened = w.opened }

  pub within-request_phase : (m : Machine) → IsWithinCapacity c m → IsWithinCapacity c (request_phase c m)
  unfolding request_phase
  within-request_phase m w = record {
    requests = λ s x hs hx. rw (lane-request_phase c m s x hs hx) (omega (arith, arrivals_fit m s x (w.requests s x hs hx), arrive_all_queue c.wait_places (lane_after_leaving c m s x) (arrivals c m s x)));
    records = λ s x hs hx. rw (lane-request_phase c m s x hs hx) (arrive_all_records c.wait_places (lane_after_leaving c m s x) (arrivals c m s x) (w.records s x hs hx));
    replies = w.replies;
    opened = λ p h. rw (element-request_phase c m p h) (w.opened p h);
  }

  pub within-processor_phase : (program : List Instr) (m : Machine) → IsWithinCapacity c m → IsWithinCapacity c (processor_phase c program m)
  unfolding processor_phase
  within-processor_phase program m w = record {
    requests = w.requests;
    records = w.records;
    replies = w.replies;
    opened = λ p h. rw (element-processor_phase c program m p h)
        (sends_opened (site c p) c.most_open (element_at m p).interface (step_at c program m p).interface (step_at c program m p).sent (step_is (site c p) c.most_open (element_at m p).interface program (element_at m p).core).into (w.opened p h));
  }
