-- A cycle of blocks that are a whole machine, half by half. What is known of the blocks before a half meets its conditions,
-- and gives what is known of them after it. After the last half they are the machine after one cycle of the definition.
use Rattle.std.proofs.Common.{◌≡◌, ℕ, ◌+◌, ◌*◌, ◌<◌, ◌≤◌, List, [], ◌∷◌, refl, ◌++◌, ◌∙◌, length, arith, ◌^◌, ap, ◌-◌}
use Rattle.ultra_partition.proofs.Common.{Rooms, all_open, AreAlike, Frame, IsClear, Event, Instr, Stop, IsFrameOf, Settings, Machine, IsCut, frame_of, BlockState, OnlyMove, AreThere, AreSingle, MessageKind, Replies, Requests, all_after_half, all_after_own_half, AllCanMake, AreBlocks, AreMerged, AreNamed, AreReady, AreRooms, append-nil, cycles_made, frame_after, listed_before, rank_after, first_rank, HaveMade, HaveStopped, events_in, OfEach, Half, SendReplies, TakeReplies, Serve, SendRequests, TakeRequests, Execute, event_rank, merged_events, merged_stops, AreMachine, AreRoomsOfAll, AreWhole, machine_in, cycle, memory_phase, processor_phase, reply_phase, request_phase, delivered_well}
use Rattle.ultra_cycle_law.proofs.Phases as step
use Rattle.ultra_partition.proofs.{Halves.{all_by_own, can_make_law, half_law}, Moved.{alike, nothing_moved, still_blocks}, Happenings.{merged_law, nothing_listed, same_listed}}

-- the half in which messages of a kind leave
abbrev sends : MessageKind → Half
sends Replies = SendReplies
sends Requests = SendRequests

-- ---- a cycle that begins with blocks that are a whole machine
module _ {c : Settings} {partition : List ℕ} {n : ℕ} {program : List Instr} {start : List BlockState} (whole : AreWhole c program partition n start) where
  abbrev d : ℕ
  d = c.stages

  abbrev f : List BlockState → Frame
  f bs = frame_of d partition bs

  -- the machine as the cycle begins, and when memory has served; messages of a kind leave it then
  abbrev pub first : Machine
  first = machine_in c partition n start

  abbrev pub middle : Machine
  middle = memory_phase c (reply_phase c first)

  abbrev pub of_kind : MessageKind → Machine
  of_kind Replies = first
  of_kind Requests = middle

  -- what is known of blocks in the course of a cycle. n cycles are done. The blocks have listed
  -- what has happened so far, in the ranks below `top`, a block at most two events for each of
  -- these; and no stops
  pub record Known (top : ℕ) (listed_by : BlockState → List Event) (stops_by : BlockState → List Stop) (so_far : List Event) (bs : List BlockState) : Type 0 where
    pub blocks : AreBlocks d partition bs
    pub runs : OfEach (λ b. b.program ≡ program) bs
    pub done : OfEach (λ b. b.done ≡ n) bs
    pub few : OfEach (λ b. length (listed_by b) ≤ 2 * top) bs
    pub listed : AreMerged (event_rank d) 0 top listed_by bs so_far
    pub no_stops : OfEach (λ b. stops_by b ≡ []) bs

  -- in the course of it, and before they make a half
  abbrev pub At : ℕ → List Event → List BlockState → Type 0
  At top = Known top (λ b. b.events) (λ b. b.stops)

  abbrev pub Before : Half → List Event → List BlockState → Type 0
  Before half = Known (first_rank half) (λ b. listed_before half b.events) (λ b. listed_before half b.stops)

  -- a frame is machine m, in which this has happened in the cycle so far, and no message is on a link
  pub record IsClearFrame (m : Machine) (events : List Event) (g : Frame) : Type 0 where
    pub faults : List Stop
    pub machine : IsFrameOf c n g events faults m
    pub clear : IsClear d g

  -- a phase is over, and so the blocks are machine m
  pub record Made (top : ℕ) (m : Machine) (bs : List BlockState) : Type 0 where
    pub events : List Event
    pub at : At top events bs
    pub frame : IsClearFrame m events (f bs)

  -- messages of a kind have left them
  pub record Left (kind : MessageKind) (bs : List BlockState) : Type 0 where
    pub events : List Event
    pub old : Frame
    pub was : IsClearFrame (of_kind kind) events old
    pub rooms : Rooms
    pub all : AreRooms d old rooms
    pub frame : AreAlike d (f bs) (frame_after d n rooms program old (sends kind))
    pub single : AreSingle kind bs
    pub at : At (rank_after (sends kind)) (listed_before (sends kind) events) bs

  -- and are in the blocks of the units to which they lead
  pub record Come (kind : MessageKind) (bs : List BlockState) : Type 0 where
    pub sent : List BlockState
    pub left : Left kind sent
    pub only : OnlyMove kind sent bs
    pub there : AreThere kind d partition bs

  -- messages go to other blocks
  at_moved : {top : ℕ} {so_far : List Event} {bs : List BlockState} (kind : MessageKind) (now : List BlockState) → At top so_far bs → OnlyMove kind bs now → At top so_far now
  at_moved kind now at only = grind (arith, still_blocks, same_listed _ _ _ _ now _ (λ b. b.events) _ only.count (λ k h. grind arith) at.listed, at.runs, at.done, at.few, at.no_stops)

  -- ---- all blocks make a half
  module _ (half : Half) (rooms : Rooms) {so_far : List Event} {bs now : List BlockState} (at : Before half so_far bs) (makes : now ≡ all_after_half half rooms program bs) (ready : AreReady d partition n program bs half) where
    half_made : HaveMade d partition n program bs half rooms now
    half_made = rw makes (half_law _ n _ half rooms program _ at.blocks ready)

    -- the cycle is not over, and a phase may be
    module _ (within : cycles_made half ≡ 0) (no_stops : HaveStopped d partition n program bs now half → OfEach (λ b. b.stops ≡ []) now) (named : AreNamed d partition n program bs half) where
      at_made : At (rank_after half) (so_far ++ events_in d n rooms program (f bs) half) now
      at_made =
          grind (arith, at.runs, at.done, at.few, half_made, no_stops (half_made.stops at.no_stops), half_made.events named so_far at.listed)

      phase_made : {m : Machine} → (AreAlike d (f now) (frame_after d n rooms program (f bs) half) → IsClearFrame m (so_far ++ events_in d n rooms program (f bs) half) (f now)) → Made (rank_after half) m now
      phase_made frame = record { events = _; at = at_made; frame = frame half_made.frame }

  -- ---- messages leave
  pub replies_left : (rooms : Rooms) {now : List BlockState} → AreRoomsOfAll start rooms → now ≡ all_after_own_half SendReplies rooms start → Left Replies now
  replies_left rooms {now = now} all made =
      let before : Before SendReplies [] start = grind (arith, whole.machine.runs, whole.machine.done, nothing_listed (event_rank d) 0 0 (λ b. []) start (λ k h. refl)) in
      let at : At 0 [] now = at_made SendReplies rooms before made whole.clear.replies refl (λ none. none) tt in
      let was : IsClearFrame first (merged_events d start) (f start) = record { faults = merged_stops d start; machine = whole.machine.machine; clear = whole.clear } in
      search (half_made SendReplies rooms before made whole.clear.replies)

  pub requests_left : (rooms : Rooms) {bs now : List BlockState} → AreRoomsOfAll bs rooms → now ≡ all_after_own_half SendRequests rooms bs → Made 640 middle bs → Left Requests now
  requests_left rooms {bs = bs} {now = now} all made x =
      let at : At 640 x.events now = rw append-nil at (at_made SendRequests rooms x.at made x.frame.clear.requests refl (λ none. none) tt) in
      search (half_made SendRequests rooms x.at made x.frame.clear.requests)

  pub left_cut : {kind : MessageKind} {bs : List BlockState} {e : ℕ} → Left kind bs → e ≡ d → IsCut e partition bs
  left_cut x net = rw net x.at.blocks.cut

  pub left_single : {kind : MessageKind} {bs : List BlockState} → Left kind bs → AreSingle kind bs
  left_single x = x.single

  -- ---- they are exchanged; where all units are in one block, each is in its block
  pub come : {kind : MessageKind} {sent now : List BlockState} {e : ℕ} → OnlyMove kind sent now → AreThere kind e partition now → e ≡ d → Left kind sent → Come kind now
  come only there net x = record { sent = _; left = x; only = only; there = rw (← net) there }

  pub come_to_one : {kind : MessageKind} {b : BlockState} → Left kind (b ∷ []) → Come kind (b ∷ [])
  come_to_one {kind = kind} x = come (nothing_moved kind _ x.single) (λ k n within small away. let here = x.at.blocks.cut.homes n small in absurd (omega arith)) refl x

  module _ {kind : MessageKind} {bs : List BlockState} (x : Come kind bs) where
    as_sent : AreAlike d (f bs) (frame_after d n x.left.rooms program x.left.old (sends kind))
    as_sent = alike _ _ _ _ kind _ x.only x.left.frame

    at_come : At (rank_after (sends kind)) (listed_before (sends kind) x.left.events) bs
    at_come = at_moved kind bs x.left.at x.only

  -- ---- replies are taken
  module _ {bs : List BlockState} (x : Come Replies bs) where
    pub can_take_replies : AllCanMake program TakeReplies bs
    can_take_replies =
        can_make_law _ n _ TakeReplies program _ (at_come x).blocks x.there
        (step.can_take_replies c n _ _ _ _ x.left.was.machine _ x.left.all.replies _ (as_sent x)) (λ k h. omega (arith, (at_come x).few k h))

    names : AreNamed d partition n program bs TakeReplies
    names = grind (arith, delivered_well c x.left.was.machine.range first x.left.was.machine.sound.routes, step.comes_home c n _ _ _ _ x.left.was.machine _ x.left.all.replies _ (as_sent x))

    pub replies_taken : {now : List BlockState} → now ≡ all_after_own_half TakeReplies all_open bs → Made 320 (reply_phase c first) now
    replies_taken made =
        phase_made TakeReplies all_open (at_come x) made x.there refl (λ none. none) names
        (λ alike. let sent = as_sent x in record { faults = []; machine = step.replied c n _ _ _ _ x.left.was.machine _ x.left.all.replies _ sent _ alike; clear = grind arith })

  -- ---- memory serves
  module _ {bs : List BlockState} (x : Made 320 (reply_phase c first) bs) where
    pub can_serve : AllCanMake program Serve bs
    can_serve = can_make_law _ n _ Serve program _ x.at.blocks tt tt (λ k h. omega (arith, x.at.few k h))

    pub served : {now : List BlockState} → now ≡ all_after_own_half Serve all_open bs → Made 640 middle now
    served made =
        phase_made Serve all_open x.at made tt refl (λ none. none) tt
        (λ alike. record { faults = x.frame.faults; machine = step.served c n _ _ _ _ x.frame.machine _ alike; clear = grind arith })

  -- ---- requests are taken
  module _ {bs : List BlockState} (x : Come Requests bs) where
    pub can_take_requests : AllCanMake program TakeRequests bs
    can_take_requests =
        can_make_law _ n _ TakeRequests program _ (at_come x).blocks (x.there, (at_come x).done)
        (step.can_take_requests c n _ _ _ _ x.left.was.machine _ x.left.all.requests _ (as_sent x)) (λ k h. omega (arith, (at_come x).few k h))

    pub requests_taken : {now : List BlockState} → now ≡ all_after_own_half TakeRequests all_open bs → Made 960 (request_phase c middle) now
    requests_taken made =
        phase_made TakeRequests all_open (at_come x) made (x.there, (at_come x).done) refl (λ none. none) tt
        (λ alike. let sent = as_sent x in record { faults = x.left.was.faults; machine = step.requested c n _ _ _ _ x.left.was.machine _ x.left.all.requests _ sent _ alike; clear = grind arith })

  -- ---- processing elements make a step, and the cycle is over
  module _ {bs : List BlockState} (x : Made 960 (request_phase c middle) bs) (early : n < 2 ^ 32 - 1) where
    pub can_execute : AllCanMake program Execute bs
    can_execute =
        can_make_law _ n _ Execute program _ x.at.blocks tt
        (x.at.runs, grind (arith, x.at.done), x.at.no_stops, step.can_execute c n _ _ _ _ x.frame.machine early) (λ k h. omega (arith, x.at.few k h))

    pub next : {now : List BlockState} → now ≡ all_after_own_half Execute all_open bs → AreWhole c program partition (n + 1) now × (machine_in c partition (n + 1) now ≡ cycle c program first)
    unfolding cycle
    next {now = now} made =
        let steps = half_made Execute all_open x.at (made ∙ all_by_own program Execute all_open bs can_execute) tt in
        let all = merged_law d now _ _ (steps.events (λ p hp. ap (λ s. s.pe) (x.frame.machine.fits.sites p hp)) x.events x.at.listed) (steps.stops x.at.no_stops) in
        let machine : IsFrameOf c (n + 1) (f now) (merged_events d now) (merged_stops d now) (processor_phase c program (request_phase c middle)) = rw (all.0, all.1) (step.stepped c n _ _ _ _ x.frame.machine program _ steps.frame) in
        let together : AreMachine c program partition (n + 1) (merged_events d now) (merged_stops d now) (machine_in c partition (n + 1) now) now = grind (arith, x.at.runs, x.at.done, steps.blocks, rw (← machine.machine) at machine) in
        (record { machine = together; clear = grind arith; in_order = all.2 }, machine.machine)

pub ruleset stages = (replies_left, requests_left, left_cut, left_single, come, can_take_replies, replies_taken, can_serve, served, can_take_requests, requests_taken, can_execute, next)
