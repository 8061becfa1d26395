-- the halves of a frame make up the phases of the definition, and so a cycle
use Rattle.std.proofs.Common.{◌≡◌, ◌≢◌, ℕ, ◌+◌, ◌*◌, ◌-◌, ◌/◌, ◌%◌, ◌^◌, ◌<◌, List, [], refl, arith, ap, ◌∙◌, sym, ◌++◌, slice_get, not, ne_eqb, eqb-true}
use Rattle.ultra_cycle_law.proofs.Common.{ports, at_switch, link_number, on_links, nat_tests, div-mul-add, mod-mul-add, mul-add-lt, pow_pos, Back, back, present, joined, size, last_stage, request_exit, IsSound, switch_number, reply_source, switch_count, request_source, where_room, going_by, lane_after_reply, lane_without, lane_with, both_coming, first_of, second_of, Frame, AreClosedToReplies, AreClosedToRequests, AreAlike, at_port, Request, Ports, Switch, replies_from, reply_from, reply_to, sends_replies, takes_replies, requests_from, request_from, sends_requests, request_to, takes_requests, serves, executes, Event, Stop, Instr, sized_lane, sized_replies, Fits, IsFrameOf, Settings, Machine, serve, served as served_one}
use Rattle.ultra_topology.specs.{Set.has_unit, Units.{stage_of, index_of}, Ways.{has_reply_way, has_room_at, has_request_way}}
use Rattle.ultra_topology.proofs.Standing.{is_switch}
use Rattle.ultra_route.specs.Route.{shuffled, unshuffled}
use Rattle.ultra_model.specs.Phases.{arrivals as arrivals_at, combinations as combinations_in, delivery, replies_made, arriving_reply, leaving_reply, replies_at_exit, next_replies, lane_after_split, delivered, reply_phase, has_reply_room, has_request_room, arriving_request, entering, leaving_request, lane_after_leaving, next_lane, request_phase, serving, memory_phase, processor_phase, cycle}
use Rattle.ultra_model.proofs.{Capacities.after_leaving_shorter, Interfaces.can_deliver, Neighbours.{next_is, itself}, Routes.entering_well, Sound.{sound-reply_phase, sound-memory_phase, sound-request_phase, sound-processor_phase}}
use Rattle.ultra_unit_steps.specs.Switches.{CanTakeReplies as SwitchCanTakeReplies, CanTakeRequests as SwitchCanTakeRequests, after_replies, first_request, after_requests, combinations_of}
use Rattle.ultra_cycle_law.specs.{Course.{delivery_events, combinations, servings, issues, stops}, Whole.whole, Law.{CanTakeReplies, CanTakeRequests, CanExecute, CycleLaw}}
use Rattle.ultra_cycle_law.proofs.AtFrame.{at_number, number_small, same_places, whole_is, whole_alike, lane_is, replies_is, memory_module_is, element_is, size_is, regroup}
use Rattle.ultra_mem.proofs.Cells.{length-serve}

-- ---- ports
-- what is made of what there is at both ports of a switch, by the position and by the port
at_both : {X Y : Type 0} (g : ℕ → ℕ → X → Y) (p : Ports X) (x : ℕ) → at_port (ports (g (2 * (x / 2)) 0 p.zero) (g (2 * (x / 2) + 1) 1 p.one)) (x % 2) ≡ g x (x % 2) (at_port p (x % 2))
at_both g p x = grind arith

-- ---- positions of a switch
-- what there is at both positions of switch k of stage s
abbrev at_positions : {X : Type 0} → (ℕ → ℕ → X) → ℕ → ℕ → Ports X
at_positions g s k = ports (g s (2 * k)) (g s (2 * k + 1))

module _ (c : Settings) (n : ℕ) (f : Frame) (events : List Event) (faults : List Stop) (before : Machine) (w : IsFrameOf c n f events faults before) where
  abbrev m : Machine
  m = whole c f n events faults

  abbrev d : ℕ
  d = c.stages

  turned : (x : ℕ) → x < size c → Back d x
  turned x hx = back d x w.range.some_stages w.range.most_stages hx

  two : 2 * 2 ^ (d - 1) ≡ 2 ^ d
  two = size_is c w.range

  -- ---- rooms, by the definition and as they are noted
  reply_room_is : (closed : List ℕ) → AreClosedToReplies d f closed → (s x : ℕ) → s < d → x < size c → not (has_unit closed (switch_number d s (x / 2))) ≡ has_reply_room c m s (x / 2)
  reply_room_is closed noted s x hs hx = grind (arith, two, number_small, replies_is)

  -- whether there is room at the port by which a request that comes to y leaves
  request_room_is : (closed : Ports (List ℕ)) → AreClosedToRequests d f closed → (s y : ℕ) (r : Request) → s < d → y < size c → has_room_at closed d s (switch_number d s (y / 2)) r ≡ has_request_room c m s (request_exit c s y r)
  request_room_is closed noted s y r hs hy = let small = number_small d s (y / 2) hs (omega (arith, two)) in grind (arith, two, lane_is, noted.switches _ 0 small, noted.switches _ 1 small)

  -- ---- switches and what comes to them, where a frame is alike to what it was sent as
  module _ {M : Type 0} {sent gone : Frame} (alike : AreAlike d sent gone) {on come : ℕ → ℕ → M} (comes : (s x : ℕ) → s < d → x < size c → on s x ≡ come s x) where
    -- what holds of both at each switch of each stage holds at each number
    each_switch : (P : ℕ → ℕ → Switch → Ports M → Type 0) → ((s k : ℕ) → s < d → k < 2 ^ (d - 1) → P s k (gone.switch (switch_number d s k)) (at_positions come s k))
        → (n : ℕ) → n < switch_count d → (let s = stage_of d n in let k = index_of d n in P s k (sent.switch n) (at_positions on s k))
    each_switch P f n h =
        grind (arith, two, is_switch d n h, alike.switches n h, comes (stage_of d n) (2 * index_of d n), comes (stage_of d n) (2 * index_of d n + 1), f (stage_of d n) (index_of d n))

    -- what is made of both
    made_with : {X : Type 0} (make : ℕ → ℕ → Switch → Ports M → X) (s k : ℕ) → s < d → k < 2 ^ (d - 1)
        → (let q = switch_number d s k in at_switch d (λ s k. make s k (sent.switch q) (at_positions on s k)) q ≡ make s k (gone.switch q) (at_positions come s k))
    made_with make s k hs hk = grind (arith, two, at_number d (λ s k. s) s k hk, at_number d (λ s k. k) s k hk, alike.switches (switch_number d s k) (number_small d s k hs hk), comes s (2 * k) hs, comes s (2 * k + 1) hs)

  -- ---- links
  -- what leaves a switch: of each queue by its position
  by_port : {X Q : Type 0} (leave : ℕ → ℕ → Q → X) (queues : Ports Q) (s x : ℕ) → x < size c
      → at_port (at_switch d (λ s k. ports (leave s (2 * k) queues.zero) (leave s (2 * k + 1) queues.one)) (switch_number d s (x / 2))) (x % 2) ≡ leave s x (at_port queues (x % 2))
  by_port leave queues s x hx = grind (arith, div-mul-add, mod-mul-add, two)

  -- messages are written on links: those that leave switches, and those that leave what is behind
  -- all stages
  on_link : {X : Type 0} (from : ℕ → Ports X) (out : ℕ → X) {on : ℕ → X} → ((l : ℕ) → l < (d + 1) * 2 ^ d → on l ≡ on_links d from out l)
      → (s x : ℕ) → s < d → x < size c → on (link_number d s x) ≡ at_port (from (switch_number d s (x / 2))) (x % 2)
  on_link from out written s x hs hx =
      let twice : s * 2 ^ d ≡ 2 * (s * 2 ^ (d - 1)) = rw (← two) (omega arith) in
      grind (arith, mul-add-lt s (2 ^ d) x d hs hx, written (link_number d s x))

  -- the machine after a phase: what is alike to the frame after it makes that up
  becomes : (k : ℕ) {h after : Frame} {now : List Event} {stopped : List Stop} {phase : Machine → Machine} → ((m : Machine) → IsSound c m → IsSound c (phase m)) → Fits c k h → whole c after k now stopped ≡ phase m → AreAlike d h after
      → IsFrameOf c k h now stopped (phase before)
  becomes k {h} {after} {now} {stopped} {phase} sound fits is alike = record { range = w.range; fits = fits; machine = whole_alike c w.range h after alike k now stopped ∙ is ∙ ap phase w.machine; sound = sound before w.sound }

  -- ---- replies
  module _ (closed : List ℕ) (noted : AreClosedToReplies d f closed) (sent : Frame) (as_sent : AreAlike d sent (sends_replies d closed f)) where
    -- ---- what leaves
    module_sends : (k : ℕ) → k < size c → reply_from d closed f k ≡ arriving_reply c m (last_stage c) k
    unfolding arriving_reply
    module_sends k hk = let room = reply_room_is closed noted (d - 1) k (omega (arith, w.range.some_stages)) hk in grind (arith, itself, memory_module_is)

    replies_leave : (s y : ℕ) → s < d → y < size c → at_port (replies_from d closed f (switch_number d s (y / 2))) (y % 2) ≡ leaving_reply c m s y
    unfolding arriving_reply
    replies_leave s y hs hy =
        by_port (λ s y q. where_room (has_reply_way closed d s y) (slice_get q.replies 0)) (f.switch (switch_number d s (y / 2))).to_pe s y hy
        ∙ grind (arith, ne_eqb, turned y hy, replies_is c f n events faults s y hs hy, λ (h : s ≢ 0). reply_room_is closed noted (s - 1) (unshuffled d y) (omega arith) (turned y hy).line_small)

    -- ---- what comes
    pub comes_home : (p : ℕ) → p < size c → reply_to d sent p ≡ delivered c m p
    comes_home p hp = grind (arith, turned p hp, on_link (replies_from d closed f) (reply_from d closed f) as_sent.replies 0 (shuffled d p), replies_leave 0 (shuffled d p))

    reply_comes : (s x : ℕ) → s < d → x < size c → sent.replies (reply_source d s x) ≡ arriving_reply c m s x
    reply_comes s x hs hx =
        grind (arith, next_is, module_sends, turned x hx, λ (h : s + 1 < d). on_link (replies_from d closed f) (reply_from d closed f) as_sent.replies (s + 1) (shuffled d x) h (turned x hx).entry_small ∙ replies_leave (s + 1) (shuffled d x) h (turned x hx).entry_small, as_sent.replies (link_number d d x))

    -- ---- each place after it
    lane_after_replies : (s x : ℕ) → s < d → x < size c → (sized_lane c (takes_replies d sent) s x).lane ≡ lane_after_split c m s x
    lane_after_replies s x hs hx =
        grind (arith, lane_is, made_with as_sent reply_comes (λ s k. after_replies d s) s (x / 2) hs (omega (arith, two)), at_both (λ x j l. lane_after_reply l (arriving_reply c m s x)) (f.switch (switch_number d s (x / 2))).to_mm x)

    -- what leaves by y of what came to port j of its switch
    made_at : (s y j : ℕ) → s < d → y < size c → j < 2
        → going_by d s (y % 2) (replies_made (at_port (f.switch (switch_number d s (y / 2))).to_mm j).lane.records (arriving_reply c m s (2 * (y / 2) + j))) ≡ replies_at_exit c m s (2 * (y / 2) + j) y
    made_at s y j hs hy hj = grind (arith, two, lane_is)

    replies_after : (s y : ℕ) → s < d → y < size c → (sized_replies c (takes_replies d sent) s y).replies ≡ next_replies c m s y
    replies_after s y hs hy =
        grind (arith, made_at s y 0 hs hy, made_at s y 1 hs hy, replies_is, replies_leave s y hs hy, made_with as_sent reply_comes (λ s k. after_replies d s) s (y / 2) hs (omega (arith, two)))

    pub replied : (h : Frame) → AreAlike d h (takes_replies d sent) → IsFrameOf c n h (delivery_events d sent) [] (reply_phase c before)
    unfolding reply_phase whole delivery_events
    replied h a =
        becomes n (sound-reply_phase c w.range) (grind arith)
        (whole_is c (takes_replies d sent) n _ _ lane_after_replies replies_after (λ k hk. grind (arith, module_sends k hk, memory_module_is c f n events faults k hk)) (λ p hp. grind (arith, comes_home p hp, element_is c f n events faults p hp)) (ap present (same_places (size c) _ _ (λ p hp. ap delivery (comes_home p hp)))) refl) a

    -- ---- there is room for what comes
    pub can_take_replies : CanTakeReplies d sent
    unfolding arriving_reply
    can_take_replies = record {
      switches = each_switch as_sent reply_comes (λ s k. SwitchCanTakeReplies) (λ s k hs hk. let q = switch_number d s k in grind (arith, two, nat_tests, noted q (number_small d s k hs hk), reply_room_is closed noted s (2 * k) hs, reply_room_is closed noted s (2 * k + 1) hs, after_leaving_shorter (replies_from d closed f q).zero (f.switch q).to_pe.zero.replies, after_leaving_shorter (replies_from d closed f q).one (f.switch q).to_pe.one.replies));
      elements = λ p hp. grind (arith, comes_home p hp, can_deliver c w.range m (rw w.machine w.sound.routes) (rw w.machine w.sound.balance) p hp, element_is c f n events faults p hp);
    }

  -- ---- memory
  pub served : (h : Frame) → AreAlike d h (serves d f) → IsFrameOf c n h (events ++ servings d f) faults (memory_phase c before)
  unfolding memory_phase whole servings
  served h a =
      let memory_module = λ (k : ℕ) (hk : k < size c). sym (memory_module_is c f n events faults k hk) in
      becomes n (sound-memory_phase c w.range) (grind (arith, length-serve)) (whole_is c (serves d f) n _ _ (λ s x hs hx. refl) (λ s y hs hy. refl) (λ k hk. ap serve (memory_module k hk)) (λ p hp. refl)
      (ap (λ os. events ++ present os) (same_places (size c) _ _ (λ k hk. ap (λ b. serving k (served_one b)) (memory_module k hk)))) refl) a

  -- ---- requests
  module _ (closed : Ports (List ℕ)) (noted : AreClosedToRequests d f closed) (sent : Frame) (as_sent : AreAlike d sent (sends_requests d closed f)) where
    -- ---- what leaves
    -- a request of a processing element comes to stage 0
    element_sends : (p : ℕ) → p < size c → request_from d closed f p ≡ arriving_request c m 0 (shuffled d p)
    unfolding arriving_request
    element_sends p hp = grind (arith, element_is, turned p hp, λ (r : Request). request_room_is closed noted 0 (shuffled d p) r)

    requests_leave : (s x : ℕ) → s < d → x < size c → at_port (requests_from d closed f (switch_number d s (x / 2))) (x % 2) ≡ leaving_request c m s x
    unfolding arriving_request
    requests_leave s x hs hx =
        by_port (λ s x l. where_room (has_request_way closed d s x (first_request l)) (first_request l)) (f.switch (switch_number d s (x / 2))).to_mm s x hx
        ∙ grind (arith, next_is, ne_eqb, lane_is, memory_module_is, turned x hx, λ (r : Request) (h : s + 1 < d). request_room_is closed noted (s + 1) (shuffled d x) r h (turned x hx).entry_small)

    -- ---- what comes
    comes_in : (k : ℕ) → k < size c → request_to d sent k ≡ entering c m k
    comes_in k hk = grind (arith, itself, on_link (requests_from d closed f) (request_from d closed f) as_sent.requests (last_stage c) k, requests_leave (last_stage c) k)

    request_comes : (s y : ℕ) → s < d → y < size c → sent.requests (request_source d s y) ≡ arriving_request c m s y
    request_comes s y hs hy = grind (arith, element_sends, turned y hy, on_link (requests_from d closed f) (request_from d closed f) as_sent.requests (s - 1) (unshuffled d y), requests_leave (s - 1) (unshuffled d y), as_sent.requests (link_number d d (unshuffled d y)))

    -- what arrives at a queue
    due_is : (s x : ℕ) → (let incoming = at_positions (arriving_request c m) s (x / 2) in both_coming d s (x % 2) (first_of n incoming) (second_of n incoming) ≡ arrivals_at c m s x)
    unfolding whole
    due_is s x = grind arith

    -- a queue after requests left
    left_is : (s x : ℕ) → s < d → x < size c → sized_lane c (sends_requests d closed f) s x ≡ record { lane = lane_after_leaving c m s x; request_places = c.request_places; wait_places = c.wait_places }
    left_is s x hs hx =
        let q = switch_number d s (x / 2) in
        grind (arith, lane_is, requests_leave s x hs hx, w.fits.switches q (number_small d s (x / 2) hs (omega (arith, two))), at_both (λ x j l. lane_without l (at_port (requests_from d closed f q) j)) (f.switch q).to_mm x)

    -- ---- each place after it
    lane_after_requests : (s x : ℕ) → s < d → x < size c → (sized_lane c (takes_requests d n sent) s x).lane ≡ next_lane c m s x
    lane_after_requests s x hs hx =
        let after = made_with as_sent request_comes (λ s k w o. (at_port (after_requests d s n w o).to_mm (x % 2)).lane) s (x / 2) hs (omega (arith, two)) in
        let incoming = at_positions (arriving_request c m) s (x / 2) in
        grind (arith, left_is s x hs hx, due_is s x, at_both (λ y j l. lane_with l (both_coming d s j (first_of n incoming) (second_of n incoming))) ((sends_requests d closed f).switch (switch_number d s (x / 2))).to_mm x)

    pub requested : (h : Frame) → AreAlike d h (takes_requests d n sent) → IsFrameOf c n h (events ++ combinations d n sent) faults (request_phase c before)
    unfolding request_phase whole combinations
    requested h a =
        let combined = λ (s x : ℕ). combinations_in c.wait_places s x (lane_after_leaving c m s x) (arrivals_at c m s x) in
        becomes n (sound-request_phase c w.range) (grind arith)
        (whole_is c (takes_requests d n sent) n _ _ lane_after_requests (λ s y hs hy. ap (λ (w : Switch). (at_port w.to_pe (y % 2)).replies) (as_sent.switches _ (number_small d s (y / 2) hs (omega (arith, two))))) (λ k hk. grind (arith, comes_in k hk, memory_module_is c f n events faults k hk)) (λ p hp. grind (arith, element_sends p hp, element_is c f n events faults p hp))
        (ap (λ es. events ++ es) (ap joined (same_places _ _ _ (each_switch as_sent request_comes (λ s k w o. combinations_of d s k n w o ≡ combined s (2 * k) ++ combined s (2 * k + 1)) (λ s k hs hk. grind (arith, two, left_is s (2 * k) hs, left_is s (2 * k + 1) hs, due_is s (2 * k), due_is s (2 * k + 1))))) ∙ sym (regroup d two combined d))) refl) a

    -- ---- there is room for what comes
    pub can_take_requests : CanTakeRequests d sent
    unfolding arriving_request
    can_take_requests = record {
      switches = each_switch as_sent request_comes (λ s k. SwitchCanTakeRequests d s) (λ s k hs hk. let small = number_small d s k hs hk in grind (arith, two, nat_tests, eqb-true, after_leaving_shorter, noted.switches _ 0 small, noted.switches _ 1 small, request_room_is closed noted));
      modules = λ k hk. grind (arith, memory_module_is, pow_pos d, comes_in k hk, entering_well c w.range m (rw w.machine w.sound.routes) k hk);
    }

  -- ---- processors
  pub can_execute : n < 2 ^ 32 - 1 → CanExecute d f
  can_execute early = grind arith

  pub stepped : (program : List Instr) (h : Frame) → AreAlike d h (executes d program f) → IsFrameOf c (n + 1) h (events ++ issues d program f) (stops d program f) (processor_phase c program before)
  unfolding processor_phase whole issues stops
  stepped program h a =
      becomes (n + 1) (sound-processor_phase c w.range program) (grind arith)
      (whole_is c (executes d program f) (n + 1) _ _ (λ s x hs hx. refl) (λ s y hs hy. refl) (λ k hk. refl) (λ p hp. grind (arith, element_is c f n events faults p hp))
      (ap (λ os. events ++ present os) (same_places _ _ _ (λ p hp. grind (arith, element_is c f n events faults p hp)))) (ap present (same_places _ _ _ (λ p hp. grind (arith, element_is c f n events faults p hp))))) a

-- ---- a cycle
pub cycle_law : CycleLaw
unfolding cycle
cycle_law c n program x events stops m w =
    let replied = replied _ _ _ _ _ _ w _ x.first_noted _ x.sends_replies _ x.takes_replies in
    let served = served _ _ _ _ _ _ replied _ x.serves in
    let requested = requested _ _ _ _ _ _ served _ x.then_noted _ x.sends_requests _ x.takes_requests in
    let machine = stepped _ _ _ _ _ _ requested _ _ x.executes in
    grind (arith, can_take_replies _ _ _ _ _ _ w _ x.first_noted _ x.sends_replies, can_take_requests _ _ _ _ _ _ served _ x.then_noted _ x.sends_requests, can_execute _ _ _ _ _ _ requested)
