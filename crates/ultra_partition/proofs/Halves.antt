-- The halves. What a block makes of itself: its units act, each by what is on its links, and it
-- lists what happens, unit by unit. All blocks become the machine after the half. Messages leave
-- switches and the units at the start of the way, and are taken by switches and the units at its
-- end. Else each unit works by itself. What the blocks list is what happens to the machine. And
-- each block may make a half where the whole machine may, and it has memory for the events.
use Rattle.std.proofs.Common.{nat_lt, true, false, ◌≡◌, ◌≢◌, ℕ, ◌+◌, ◌<◌, ◌≤◌, List, ◌++◌, map, Option, Some, None, length, arith, ◌-◌, ◌*◌, ◌/◌, ◌^◌, inl, inr, ◌∙◌, [], refl, sym, ap, ◌∷◌, get_or-set_other}
use Rattle.ultra_partition.proofs.Common.{CanTakeReplies, CanTakeRequests, sizes, unit_of_element, unit_of_module, unit_of_switch, AreNamed, HalfLaw, HaveStopped, AreMerged, events_in, event_rank, stop_rank, length-map, get_or_past, append-nil, cases_lt, switch_count, link_number, unit_count, ports, where_room, IsShaped, stage_of, index_of, IsUnit, AreEmpty, is_switch, unit_is, has_places, places_of, places_twice, put_or, on_links, Event, Instr, Stop, pending_head, block_at, frame_of, value_or, home, first, BlockState, AreBlocks, AreBlocksAfter, cycles_made, listed_before, first_rank, rank_after, Half, all_after_half, AllCanMake, CanMakeLaw, AreAlike, all_after_own_half, AreReady, CanMakeTogether, HaveLeft, OfEach, HasHalfRoom, frame_after, Frame, SendReplies, TakeReplies, Serve, SendRequests, TakeRequests, Execute, AreSingle, MessageOf, inlets, message_on, on_each, link_table, with_link_table, AreThere, MessageKind, Replies, Requests, Switch, Ports, serve, served, present, without_reply, delivery, serving, issue_event, stop_of, after_replies, after_requests, replies_leaving, request_heads, requests_leaving, without_replies, without_requests, combinations_of, module_with, delivered_to, element_without, executed, element_of, step_at, Rooms as BlockRooms, replies_to_switch, reply_reader, reply_to_element, request_reader, request_to_module, requests_to_switch, two_combine, entries_before, same_visits, made_by_own, UnitUpdate, UnitUpdates, AllUpdated, AreFair, Seen, update, after_update, all_updated, end_puts, event_entries, on_one, on_two, stop_entries, switch_puts, on_links_after, same_entry, Unit as UnitName, has_way_from_element, request_ways, sends_requests, without_events, has_way_from_module, reply_ways, sends_replies, counted, executes, after_half, after_own_half, UnitCanTakeReplies, takes_replies, UnitCanTakeRequests, takes_requests, serves, all_open, at_both}
use Rattle.ultra_partition.proofs.Columns.{changed_at, column_first, column_none, column_empty, same_entries}
use Rattle.ultra_partition.proofs.Units.{few_units, Sort, at_home, away, elements, home_small, modules, switches, here}
use Rattle.ultra_partition.proofs.Moved.{by_inlets, end_link, end_number, leads_to, links, links_of, none_among, none_past, reader, end_there, switch_there}
use Rattle.ultra_partition.proofs.Happenings.{combinations_ranked, joined_present, listed_behind, nothing_listed, part, same_listed, units_list_nothing}
use Rattle.ultra_cycle_law.specs.Course as course
use Rattle.ultra_topology.specs.declared.unit.Unit.TheVariants as unit

-- ---- what units do, and list
-- its links don't matter
abbrev pub works : {L X : Type 0} → (X → X) → (ℕ → X → List Event) → (ℕ → X → List Stop) → UnitUpdate L X
works f events stops = record { at = λ i. None; unit = λ i x on. f x; links = λ i x on. on; events = λ i x on. events i x; stops = λ i x on. stops i x }

abbrev pub idle : {L X : Type 0} → UnitUpdate L X
idle = works (λ x. x) (λ i x. []) (λ i x. [])

abbrev pub all_idle : {M : Type 0} → UnitUpdates M
all_idle = record { switch = idle; memory_module = idle; element = idle }

module _ {M : Type 0} (d : ℕ) where
  -- what a switch sends is put on its links, and it is left without that; and so at the start of the way
  abbrev pub switch_sends : (ℕ → Switch → Ports (Option M)) → (Switch → Ports (Option M) → Switch) → UnitUpdate (Ports (Option M)) Switch
  switch_sends outs without = record idle {
    at = λ n. Some (places_of d (stage_of d n) (index_of d n));
    unit = λ n w on. without w (outs n w);
    links = λ n w on. ports (put_or (outs n w).zero on.zero) (put_or (outs n w).one on.one);
  }

  abbrev pub start_sends : {X : Type 0} → (ℕ → X → Option M) → (X → Option M → X) → UnitUpdate (Option M) X
  start_sends out without = record idle { at = λ i. Some (at_both (link_number d d i)); unit = λ i x on. without x (out i x); links = λ i x on. put_or (out i x) on }

-- it takes what is on its links
module _ (kind : MessageKind) (d : ℕ) where
  abbrev pub switch_takes : (ℕ → Switch → Ports (Option (MessageOf kind)) → Switch) → (ℕ → Switch → Ports (Option (MessageOf kind)) → List Event) → UnitUpdate (Ports (Option (MessageOf kind))) Switch
  switch_takes after events = record idle { at = λ n. Some (links kind d n); unit = after; links = λ n w on. ports None None; events = events }

  abbrev pub end_takes : {X : Type 0} → (X → Option (MessageOf kind) → X) → (ℕ → X → Option (MessageOf kind) → List Event) → UnitUpdate (Option (MessageOf kind)) X
  end_takes after events = record idle { at = λ i. Some (at_both (end_link kind d i)); unit = λ i. after; links = λ i x on. None; events = events }

-- ---- where units are and act
-- what is on links of a kind
abbrev Reads : MessageKind → Type 0 → Type 0
Reads kind L = List (Option (MessageOf kind)) → Option (Ports ℕ) → L

-- on those of unit i of a sort, by what it does
abbrev pub on : (kind : MessageKind) {X L : Type 0} → UnitUpdate L X → Reads kind L → ℕ → BlockState → L
on kind a read i b = read (link_table kind b) (a.at i)

-- the units of a sort in a block have acted
abbrev pub HaveUpdated : (kind : MessageKind) {X L : Type 0} → Sort X → UnitUpdate L X → Reads kind L → ℕ → BlockState → BlockState → Type 0
HaveUpdated kind {X = X} {L = L} sort a read d b now = (i : ℕ) → i < sort.count d → ◌≡◌ {A = Option X × L} (sort.at now i, on kind a read i now) (after_update a i (sort.at b i, on kind a read i b))

module _ (d : ℕ) (partition : List ℕ) (bs : List BlockState) (blocks : AreBlocks d partition bs) (kind : MessageKind) (change : BlockState → BlockState) where
  abbrev changed : List BlockState
  changed = map change bs

  -- only its home changes a unit, and what is on its links
  module _ {X L : Type 0} (sort : Sort X) (a : UnitUpdate L X) (read : Reads kind L) (i : ℕ) where
    abbrev at : ℕ
    at = home partition (sort.number d i)

    abbrev own : X
    own = value_or sort.nothing (sort.at (block_at bs at) i)

    pub record UpdatesAtHome : Type 0 where
      pub unit : value_or sort.nothing (sort.at (block_at changed at) i) ≡ a.unit i own (on kind a read i (block_at bs at))
      pub links : on kind a read i (change (block_at bs at)) ≡ on_links_after (a.at i) (on kind a read i (block_at bs at)) (a.links i own (on kind a read i (block_at bs at)))
      pub away : (k : ℕ) → k < length bs → k ≢ at → on kind a read i (change (block_at bs k)) ≡ on kind a read i (block_at bs k)

    updates_at_home : ((k : ℕ) → k < length bs → HaveUpdated kind sort a read d (block_at bs k) (change (block_at bs k))) → i < sort.count d → UpdatesAtHome
    updates_at_home updates h = grind (arith, changed_at, at_home, home_small, away)

  -- ---- messages leave
  module _ (now_are : AreBlocks d partition changed) {X : Type 0} (starts : Sort X) (all : starts.count d ≡ 2 ^ d) (outs : ℕ → Switch → Ports (Option (MessageOf kind))) (out : ℕ → X → Option (MessageOf kind))
      (without : Switch → Ports (Option (MessageOf kind)) → Switch) (start_without : X → Option (MessageOf kind) → X)
      (switches_update : (i : ℕ) → i < switch_count d → UpdatesAtHome switches (switch_sends d outs without) on_two i) (starts_update : (i : ℕ) → i < starts.count d → UpdatesAtHome starts (start_sends d out start_without) on_one i)
      (clear : (l : ℕ) → l < (d + 1) * 2 ^ d → first (on_each kind bs l) ≡ None) where
    abbrev sent_on : ℕ → Option (MessageOf kind)
    sent_on = on_links d (λ i. outs i ((frame_of d partition bs).switch i)) (λ i. out i (value_or starts.nothing (starts.at (block_at bs (home partition (starts.number d i))) i)))

    -- one block alone has it there
    abbrev sender : ℕ → ℕ
    sender l = home partition (elim (nat_lt l (d * 2 ^ d)) [ true ↦ l / 2 | false ↦ starts.number d (l - d * 2 ^ d) ])

    alone : (l : ℕ) → l < (d + 1) * 2 ^ d
        → record { within : sender l < length changed; here : message_on kind l (block_at changed (sender l)) ≡ sent_on l; away : (k : ℕ) → k < length changed → k ≢ sender l → message_on kind l (block_at changed k) ≡ None }
    alone l small_link = elim (cases_lt l (d * 2 ^ d)) [
      | inl h ↦
          let small : l / 2 < switch_count d = omega (arith, places_twice d blocks.some_stages blocks.few_stages) in
          grind (arith, home_small switches _ _ _ blocks.cut, has_places d (l / 2) _ _ blocks.some_stages blocks.few_stages (is_switch d (l / 2) small), switches_update (l / 2) small, column_none (message_on kind l) bs (clear l small_link), changed_at, length-map)
      | inr past ↦
          grind (arith, home_small starts _ _ _ blocks.cut, starts_update (l - d * 2 ^ d), column_none (message_on kind l) bs (clear l small_link), changed_at, length-map)
    ]

    sent : ((l : ℕ) → l < (d + 1) * 2 ^ d → first (on_each kind changed l) ≡ sent_on l) × AreSingle kind changed
    sent = (λ l h. let it = alone l h in column_first (message_on kind l) changed _ it.within it.away ∙ it.here, record { alone = λ l i j other there. grind (arith, alone l, none_past, get_or_past, links_of) })

  -- ---- they are taken
  module _ (there : AreThere kind d partition bs) {X : Type 0} (ends : Sort X) (all : ends.count d ≡ 2 ^ d) (numbers : (i : ℕ) → ends.number d i ≡ end_number kind d i)
      (after : ℕ → Switch → Ports (Option (MessageOf kind)) → Switch) (events : ℕ → Switch → Ports (Option (MessageOf kind)) → List Event) (end_after : X → Option (MessageOf kind) → X) (end_events : ℕ → X → Option (MessageOf kind) → List Event)
      (switches_update : (i : ℕ) → i < switch_count d → UpdatesAtHome switches (switch_takes kind d after events) on_two i) (ends_update : (i : ℕ) → i < ends.count d → UpdatesAtHome ends (end_takes kind d end_after end_events) on_one i) where
    emptied : (n k : ℕ) → k < length bs → (home partition n ≢ k → AreEmpty (link_table kind (block_at bs k)) (inlets kind d n)) → AreEmpty (link_table kind (change (block_at bs k))) (inlets kind d n)
    emptied = by_inlets kind d (λ n o. (k : ℕ) → k < length bs → (home partition n ≢ k → AreEmpty (link_table kind (block_at bs k)) o) → AreEmpty (link_table kind (change (block_at bs k))) o)
        (λ n h k within none. let it = switches_update n h in grind arith)
        (λ i h k within none. let it = ends_update i (omega (arith, all)) in let number = numbers i in grind arith)
        (λ n k within none. tt)

    taken : (l : ℕ) → l < (d + 1) * 2 ^ d → first (on_each kind changed l) ≡ None
    taken l h =
        let it = leads_to kind d blocks.some_stages blocks.few_stages l h in
        column_empty (message_on kind l) changed (grind (arith, changed_at, length-map, (λ (k : ℕ) (within : k < length bs). none_among (link_table kind (change (block_at bs k))) l _ it.among (emptied (reader kind d l) k within (there k (reader kind d l) within it.small)))))

-- ---- the halves
-- the messages that a half sends or takes; where it does neither, those of either kind would do
abbrev pub kind_of : Half → MessageKind
kind_of SendRequests = Requests
kind_of TakeRequests = Requests
kind_of half = Replies

-- links with no messages of the kind stay as they are, and all where a half neither sends nor takes
abbrev pub LinksStay : Half → BlockState → BlockState → Type 0
LinksStay SendReplies b now = now.requests ≡ b.requests
LinksStay TakeReplies b now = now.requests ≡ b.requests
LinksStay SendRequests b now = now.replies ≡ b.replies
LinksStay TakeRequests b now = now.replies ≡ b.replies
LinksStay half b now = (now.replies ≡ b.replies) × (now.requests ≡ b.requests)

abbrev pub seen : (kind : MessageKind) → BlockState → Seen (MessageOf kind)
seen kind b = record { switches = b.switches; modules = b.modules; elements = b.elements; table = link_table kind b; events = b.events; stops = b.stops }

-- a block with other units and lists, and with something else on its links
abbrev pub with_units : {M : Type 0} → BlockState → Seen M → BlockState
with_units b v = record b { switches = v.switches; modules = v.modules; elements = v.elements; events = v.events; stops = v.stops }

abbrev pub with_seen : BlockState → (half : Half) → Seen (MessageOf (kind_of half)) → BlockState
with_seen b Serve v = with_units b v
with_seen b Execute v = with_units b v
with_seen b half v = with_link_table (kind_of half) v.table (with_units b v)

-- what is seen as the visits begin, and the block when they are over
abbrev pub seen_first : (half : Half) → BlockState → Seen (MessageOf (kind_of half))
seen_first SendReplies b = seen Replies (without_events b)
seen_first half b = seen (kind_of half) b

abbrev pub after_visits : Half → BlockState → BlockState
after_visits Execute b = counted b
after_visits half b = b

module _ (d n : ℕ) (rooms : BlockRooms) (program : List Instr) where
  -- what the units do, in cycle n
  abbrev pub updates : (half : Half) → UnitUpdates (MessageOf (kind_of half))
  updates SendReplies = record all_idle {
    switch = switch_sends d (λ i. replies_leaving (reply_ways rooms.no_reply_room d (stage_of d i) (index_of d i))) without_replies;
    memory_module = start_sends d (λ m x. where_room (has_way_from_module rooms.no_reply_room d m) x.out) without_reply;
  }
  updates TakeReplies = record all_idle { switch = switch_takes Replies d (λ i. after_replies d (stage_of d i)) (λ i w on. []); element = end_takes Replies d delivered_to (λ p e incoming. present (delivery incoming ∷ [])) }
  updates Serve = record all_idle { memory_module = works serve (λ m x. present (serving m (served x) ∷ [])) (λ m x. []) }
  updates SendRequests = record all_idle {
    switch = switch_sends d (λ i w. requests_leaving (request_ways rooms.no_request_room d (stage_of d i) (index_of d i) (request_heads w)) w) without_requests;
    element = start_sends d (λ p e. where_room (has_way_from_element rooms.no_request_room d p (pending_head e)) (pending_head e)) element_without;
  }
  updates TakeRequests = record all_idle {
    switch = switch_takes Requests d (λ i. after_requests d (stage_of d i) n) (λ i. combinations_of d (stage_of d i) (index_of d i) n);
    memory_module = end_takes Requests d (module_with (2 ^ d)) (λ m x incoming. []);
  }
  updates Execute = record all_idle {
    element = works (executed program) (λ p e. present (issue_event (element_of e) (step_at program e).sent ∷ [])) (λ p e. present (stop_of p (step_at program e).was ∷ []));
  }

  -- what a block lists in a half, unit by unit
  abbrev pub events_by : Half → BlockState → List Event
  events_by half b = entries_before (event_entries d (updates half)) 320 (seen_first half b)

  abbrev pub stops_by : Half → BlockState → List Stop
  stops_by half b = entries_before (stop_entries d (updates half)) 320 (seen_first half b)

  -- all units of a block have acted in the half
  pub record AllUpdate (half : Half) (b now : BlockState) : Type 0 where
    pub shape : IsShaped d now
    pub done : now.done ≡ b.done + cycles_made half
    pub runs : now.program ≡ b.program
    pub switches : HaveUpdated (kind_of half) switches (updates half).switch on_two d b now
    pub modules : HaveUpdated (kind_of half) modules (updates half).memory_module on_one d b now
    pub elements : HaveUpdated (kind_of half) elements (updates half).element on_one d b now
    pub links : LinksStay half b now
    pub events : now.events ≡ listed_before half b.events ++ events_by half b
    pub stops : now.stops ≡ listed_before half b.stops ++ stops_by half b
    pub few : length now.events ≤ length (listed_before half b.events) + 2 * (rank_after half - first_rank half)

  -- ---- a half visits each unit of a block once, and each visit is its act
  abbrev pub visit : Half → ℕ → BlockState → BlockState
  visit SendReplies = sends_replies rooms.no_reply_room
  visit TakeReplies = takes_replies
  visit Serve = serves
  visit SendRequests = sends_requests rooms.no_request_room
  visit TakeRequests = takes_requests
  visit Execute = executes program

  module _ (low : 1 ≤ d) (high : d ≤ 6) where
    fair : (half : Half) → AreFair d (updates half)
    fair SendReplies = record { owner = _; switches = switch_puts d (switch_count d) low high; modules = end_puts d (switch_count d) low high (omega arith); elements = λ p h. tt; few = λ i v. grind arith }
    fair TakeReplies = record { owner = reply_reader d; switches = λ i h. replies_to_switch d low high i _ _ (is_switch d i h); modules = λ m h. tt; elements = λ p h. reply_to_element d low high _ p (record { small = h; number = refl }); few = λ i v. grind arith }
    fair SendRequests = record { owner = _; switches = switch_puts d (switch_count d + 2 ^ d) low high; modules = λ m h. tt; elements = end_puts d (switch_count d + 2 ^ d) low high (omega arith); few = λ i v. grind arith }
    fair TakeRequests = record { owner = request_reader d; switches = λ i h. requests_to_switch d low high i _ _ (is_switch d i h); modules = λ m h. request_to_module d low high _ m (record { small = h; number = refl }); elements = λ p h. tt; few = λ i v. grind (arith, two_combine) }
    fair half = record { owner = λ l. 0; switches = λ i h. tt; modules = λ m h. tt; elements = λ p h. tt; few = λ i v. grind arith }

    module _ (b : BlockState) (shape : IsShaped d b) where
      each : (half : Half) → (half ≡ TakeRequests → b.done ≡ n) → (i : ℕ) (v : Seen (MessageOf (kind_of half))) → visit half i (with_seen b half v) ≡ with_seen b half (update d (updates half) i v)
      each TakeRequests in_cycle i v = rw (shape.stages, in_cycle refl) (grind (arith, same_entry, append-nil))
      each half in_cycle i v = rw (shape.stages) (grind (arith, get_or-set_other, same_entry, append-nil))

      updated : (half : Half) (after : Seen (MessageOf (kind_of half))) → AllUpdated d (updates half) (fair half) (seen_first half b) after → AllUpdate half b (after_visits half (with_seen b half after))
      updated SendReplies after it = grind (arith, units_list_nothing (event_entries d (updates SendReplies)) 320)
      updated SendRequests after it = grind (arith, append-nil, units_list_nothing (event_entries d (updates SendRequests)) 320)
      updated half after it = grind arith

      half_updates : (half : Half) → (half ≡ TakeRequests → b.done ≡ n) → AllUpdate half b (after_half half rooms program b)
      half_updates Execute in_cycle =
          rw (same_visits (visit Execute) (update d (updates Execute)) (with_seen b Execute) (each Execute in_cycle) 320 (seen_first Execute b)) (updated Execute _ (all_updated d (updates Execute) (fair Execute) (few_units d low high) _ (grind arith)))
      half_updates half in_cycle =
          rw (same_visits (visit half) (update d (updates half)) (with_seen b half) (each half in_cycle) 320 (seen_first half b)) (updated half _ (all_updated d (updates half) (fair half) (few_units d low high) _ (grind arith)))

  -- ---- all blocks
  module _ (partition : List ℕ) (bs : List BlockState) (blocks : AreBlocks d partition bs) where
    abbrev f : Frame
    f = frame_of d partition bs

    module _ (half : Half) where
      abbrev after : List BlockState
      after = all_after_half half rooms program bs

      abbrev AtHome : {X L : Type 0} → Sort X → UnitUpdate L X → Reads (kind_of half) L → Type 0
      AtHome sort a read = (i : ℕ) → i < sort.count d → UpdatesAtHome d partition bs blocks (kind_of half) (after_half half rooms program) sort a read i

      pub record AllUpdateAtHome : Type 0 where
        pub all : AreBlocksAfter d partition half bs after
        pub switches : AtHome switches (updates half).switch on_two
        pub modules : AtHome modules (updates half).memory_module on_one
        pub elements : AtHome elements (updates half).element on_one

      module _ (ready : AreReady d partition n program bs half) where
        each_updates : (k : ℕ) → k < length bs → AllUpdate half (block_at bs k) (after_half half rooms program (block_at bs k))
        each_updates k h = half_updates blocks.some_stages blocks.few_stages (block_at bs k) (blocks.shaped k h) half (λ is. let same : AreReady d partition n program bs TakeRequests = rw is at ready in same.1 k h)

        all_update_at_home : AllUpdateAtHome
        all_update_at_home = record {
          all = grind (arith, length-map, changed_at, each_updates);
          switches = λ i. updates_at_home _ _ _ blocks _ _ switches (updates half).switch _ i (λ k h. (each_updates k h).switches);
          modules = λ i. updates_at_home _ _ _ blocks _ _ modules (updates half).memory_module _ i (λ k h. (each_updates k h).modules);
          elements = λ i. updates_at_home _ _ _ blocks _ _ elements (updates half).element _ i (λ k h. (each_updates k h).elements);
        }

    -- a half of them is that half of the whole machine
    becomes : (half : Half) → AreReady d partition n program bs half → AreBlocksAfter d partition half bs (after half) × AreAlike d (frame_of d partition (after half)) (frame_after d n rooms program f half) × HaveLeft d partition n program bs (after half) half
    becomes SendReplies clear =
        let it = all_update_at_home SendReplies clear in
        grind (arith, changed_at, same_entries, length-map, each_updates SendReplies clear, sent _ _ _ blocks Replies _ it.all.blocks modules refl _ _ without_replies without_reply it.switches it.modules clear)
    becomes TakeReplies there =
        let it = all_update_at_home TakeReplies there in
        grind (arith, changed_at, same_entries, length-map, each_updates TakeReplies there, taken _ _ _ blocks Replies _ there elements refl (λ i. refl) _ _ _ _ it.switches it.elements, switch_there Replies _ _ _ blocks.cut there, end_there Replies _ _ _ blocks.cut there)
    becomes SendRequests clear =
        let it = all_update_at_home SendRequests clear in
        grind (arith, changed_at, same_entries, length-map, each_updates SendRequests clear, sent _ _ _ blocks Requests _ it.all.blocks elements refl _ _ without_requests element_without it.switches it.elements clear)
    becomes TakeRequests (there, same) =
        let it = all_update_at_home TakeRequests (there, same) in
        grind (arith, changed_at, same_entries, length-map, each_updates TakeRequests (there, same), taken _ _ _ blocks Requests _ there modules refl (λ i. refl) _ _ _ _ it.switches it.modules, switch_there Requests _ _ _ blocks.cut there, end_there Requests _ _ _ blocks.cut there)
    becomes half ready = grind (arith, all_update_at_home half ready, each_updates half ready, changed_at, same_entries, length-map)

    -- a unit can make it: it is that of the machine, and what comes to it is there
    takes_replies_there : AreThere Replies d partition bs → CanTakeReplies d f → (k : ℕ) → k < length bs → (block_at bs k).stages ≡ d → (i : ℕ) (u : UnitName) → IsUnit d i u → UnitCanTakeReplies i (block_at bs k) u
    takes_replies_there there can k within stages i (unit.Switch s x) is = λ w at. grind (arith, here switches _ _ _ blocks.cut i is.within k within w at, switch_there Replies _ _ _ blocks.cut there i is.within, can.switches i is.within)
    takes_replies_there there can k within stages i (unit.Element p) is = λ e at r on. grind (arith, here elements _ _ _ blocks.cut p is.small k within e at, end_there Replies _ _ _ blocks.cut there p is.small, can.elements p is.small)
    takes_replies_there there can k within stages i u is = tt

    takes_requests_there : AreThere Requests d partition bs → CanTakeRequests d f → (k : ℕ) → k < length bs → (block_at bs k).stages ≡ d → (i : ℕ) (u : UnitName) → IsUnit d i u → UnitCanTakeRequests i (block_at bs k) u
    takes_requests_there there can k within stages i (unit.Switch s x) is = λ w at. grind (arith, here switches _ _ _ blocks.cut i is.within k within w at, switch_there Requests _ _ _ blocks.cut there i is.within, can.switches i is.within)
    takes_requests_there there can k within stages i (unit.Module m) is = λ x at r on. grind (arith, here modules _ _ _ blocks.cut m is.small k within x at, end_there Requests _ _ _ blocks.cut there m is.small, can.modules m is.small r)
    takes_requests_there there can k within stages i u is = tt

    can_make : (half : Half) → AreReady d partition n program bs half → CanMakeTogether d partition n program bs half → OfEach HasHalfRoom bs → AllCanMake program half bs
    can_make TakeReplies there can room = grind (arith, unit_is, takes_replies_there there can, blocks.cut.stages, room)
    can_make TakeRequests (there, same) can room = grind (arith, unit_is, takes_requests_there there can, blocks.cut.stages, room)
    can_make half ready can room = grind (arith, unit_is, here elements _ _ _ blocks.cut, blocks.cut.stages, room)

    -- ---- what the blocks list in it
    few : unit_count d < 321
    few = few_units d blocks.some_stages blocks.few_stages

    listed : (half : Half) → AreReady d partition n program bs half → AreNamed d partition n program bs half
        → AreMerged (event_rank d) (first_rank half) (rank_after half) (events_by half) bs (events_in d n rooms program f half)
    unfolding course.delivery_events course.servings course.combinations course.issues
    listed TakeReplies there names =
        rw (← joined_present) (part _ _ _ blocks (event_rank d) 0 (switch_count d + 2 ^ d) (omega arith) elements (on Replies (updates TakeReplies).element on_one) (updates TakeReplies).element.events _ 320 (omega (arith, few))
        (λ p small. (ap (λ o. present (delivery o ∷ [])) (sym (end_there Replies _ _ _ blocks.cut there p small)), (let it = names p small in grind arith))) (grind (arith, few, unit_of_element)))
    listed Serve ready named =
        rw (← joined_present) (part _ _ _ blocks (event_rank d) 320 (320 + switch_count d) (omega arith) modules (on Replies (updates Serve).memory_module on_one) (updates Serve).memory_module.events _ 640 (omega (arith, few))
        (λ m small. (refl, grind arith)) (grind (arith, few, unit_of_module)))
    listed TakeRequests (there, same) named =
        part _ _ _ blocks (event_rank d) 640 640 (omega arith) switches (on Requests (updates TakeRequests).switch on_two) (updates TakeRequests).switch.events _ 960 (omega (arith, few))
        (λ i small. (
          ap (combinations_of d (stage_of d i) (index_of d i) n (f.switch i)) (sym (switch_there Requests _ _ _ blocks.cut there i small)),
          combinations_ranked d n i (stage_of d i) (index_of d i) (f.switch i) (course.requests_to d f i) (sym (is_switch d i small).number),
        )) (grind (arith, few, unit_of_switch))
    listed Execute ready sites =
        rw (← joined_present) (part _ _ _ blocks (event_rank d) 960 (960 + (switch_count d + 2 ^ d)) (omega arith) elements (on Replies (updates Execute).element on_one) (updates Execute).element.events _ 1280 (omega (arith, few))
        (λ p small. (refl, (let at = sites p small in grind arith))) (grind (arith, few, unit_of_element)))
    listed half ready named = nothing_listed (event_rank d) _ _ _ bs (λ k h. units_list_nothing _ 320 _ (λ i. grind arith))

    -- each block lists that behind what it had listed
    events_after : (half : Half) → AreReady d partition n program bs half → AreNamed d partition n program bs half → (so_far : List Event) → AreMerged (event_rank d) 0 (first_rank half) (λ b. listed_before half b.events) bs so_far
        → AreMerged (event_rank d) 0 (rank_after half) (λ b. b.events) (after half) (so_far ++ events_in d n rooms program f half)
    events_after half ready named so_far was =
        listed_behind _ _ _ _ (omega arith) (grind arith) _ _ (length-map _ _) _ _ _ (grind (arith, changed_at, each_updates half ready)) _ _ was (listed half ready named)

    stops_after : (half : Half) → AreReady d partition n program bs half → OfEach (λ b. listed_before half b.stops ≡ []) bs → HaveStopped d partition n program bs (after half) half
    unfolding course.stops
    stops_after Execute ready none =
        same_listed _ _ _ _ _ (stops_by Execute) _ _ (length-map _ _) (λ k h. let updates = each_updates Execute ready k h in grind (arith, changed_at, none))
        (rw (← joined_present) (part _ _ _ blocks stop_rank 0 0 (omega arith) elements (on Replies (updates Execute).element on_one) (updates Execute).element.stops _ 64 (let narrow = (sizes d blocks.some_stages blocks.few_stages).1 in omega arith)
        (λ p small. (refl, grind arith)) (grind (arith, few, unit_of_element))))
    stops_after half ready none = grind (arith, each_updates half ready, changed_at, units_list_nothing (stop_entries d (updates half)) 320, none, length-map)

pub half_law : HalfLaw
half_law d n partition half rooms program bs blocks ready =
    grind (arith, becomes d n rooms program partition bs blocks half ready, events_after d n rooms program partition bs blocks half ready, stops_after d n rooms program partition bs blocks half ready)

pub can_make_law : CanMakeLaw
can_make_law d n partition half program bs blocks = can_make d n all_open program partition bs blocks half

pub all_by_own : (program : List Instr) (half : Half) (rooms : BlockRooms) (bs : List BlockState) → AllCanMake program half bs → all_after_own_half half rooms bs ≡ all_after_half half rooms program bs
all_by_own program half rooms bs can = same_entries (after_half half rooms program) (after_own_half half rooms) bs bs refl (λ k h. made_by_own program _ half rooms (can k h))
