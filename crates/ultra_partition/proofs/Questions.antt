-- What is asked of all blocks: where there is no room, which units hold something, and whether anything is left to do. What
-- they answer is true of the whole machine that they make up.
use Rattle.std.proofs.Common.{◌≡◌, ℕ, ◌+◌, ◌^◌, ◌<◌, List, Bool, length, arith, [], ◌∷◌, refl, ◌*◌, ◌/◌, ◌≤◌, true, false, get_or, None, take, ap, ◌∙◌, ◌&&◌, is_some, not, ◌==◌, take_all}
use Rattle.ultra_partition.proofs.Common.{list_all, list_any, All-from_get_or, get_or_default, itself, sizes, Lane, Element, size, is_empty, is_quiet, places_at, length-places, has_unit, switch_count, module_number, has_reply_room, has_request_room, quiet_switch, quiet_module, element_of, quiet_element, if_here, own_switch, own_module, HasNoted, AreOwnRooms, Rooms, Held, holds_at, switch_holds, module_holds, element_holds, is_switch, unit_of_module, unit_of_element, by_kind, unit_of_none, index_of, stage_of, Frame, ReplyMessage, Settings, number_small, lane_is, replies_is, memory_module_is, element_is, block_at, frame_of, home, no_block, BlockState, AreRooms, AreBlocks, OfEach, AreRoomsOfAll, holds, IsSetOfAll, Event, Stop, list_any_more, list_any_at, list_any_none, AllPass-from_list_all, list_all-from_AllPass, has_stopped, places, none_there, or_elsewhere, quiet_block, whole, sized_lane, sized_replies}
use Rattle.ultra_model.specs.Places.{table}
use Rattle.ultra_partition.proofs.Units.{home_small, if_home, modules, switches, elements, Sort, at_home, here, unit}

-- ---- of one block after another
-- one block alone may pass a test, and it does if q is true
any_home : (p : BlockState → Bool) (q : Bool) (h : ℕ) (bs : List BlockState) → ((k : ℕ) → k < length bs → p (block_at bs k) ≡ ((h == k) && q)) → (q ≡ true → h < length bs) → list_any p bs ≡ q
any_home p false h bs is within = list_any_none p bs (All-from_get_or (λ b. p b ≡ false) bs no_block (grind arith))
any_home p true h bs is within = list_any_at p bs h no_block (within refl) (grind (arith, itself, within))

-- ---- rooms: a unit is noted by the block in which it is
-- what some blocks of a machine of d stages have noted
pub record HaveNoted (d : ℕ) (bs : List BlockState) (rooms : Rooms) : Type 0 where
  pub replies : (n : ℕ) → n < switch_count d → has_unit rooms.no_reply_room n ≡ list_any (λ b. if_here (λ w. not (has_reply_room w)) (own_switch b.switches n)) bs
  pub zero_port : (n : ℕ) → n < switch_count d → has_unit rooms.no_request_room.zero n ≡ list_any (λ b. if_here (λ w. not (has_request_room w).zero) (own_switch b.switches n)) bs
  pub one_port : (n : ℕ) → n < switch_count d → has_unit rooms.no_request_room.one n ≡ list_any (λ b. if_here (λ w. not (has_request_room w).one) (own_switch b.switches n)) bs
  pub modules : (m : ℕ) → m < 2 ^ d → has_unit rooms.no_request_room.zero (module_number d m) ≡ list_any (λ b. if_here (λ memory_module. is_some memory_module.inp) (own_module b.modules m)) bs

-- one block more
pub next_noted : (d : ℕ) (bs : List BlockState) (i : ℕ) (b : BlockState) (old now : Rooms) → OfEach (λ b. b.stages ≡ d) bs → i < length bs → b ≡ get_or bs i b → HasNoted b old now → HaveNoted d (take i bs) old → HaveNoted d (take (i + 1) bs) now
next_noted d bs i b old now stages within is noted before =
    let more = λ (p : BlockState → Bool). list_any_more p bs i b within in grind (arith, get_or_default bs i b no_block within, stages i within)

module _ (d : ℕ) (partition : List ℕ) (bs : List BlockState) (are : AreBlocks d partition bs) where
  -- a unit of the machine passes a test where its block notes it
  any_passes : {X : Type 0} (sort : Sort X) (p : X → Bool) (i : ℕ) (h : i < sort.count d) → list_any (λ b. if_here p (sort.at b i)) bs ≡ p (unit sort d partition bs are.cut i h)
  any_passes sort p i h = any_home _ _ _ bs (if_home sort _ _ _ are.cut i h p) (λ _. home_small sort _ _ _ are.cut i h)

  pub rooms_are : (rooms : Rooms) → HaveNoted d bs rooms → AreRooms d (frame_of d partition bs) rooms
  rooms_are rooms have =
      let switches_pass = any_passes switches in grind (arith, switches_pass (λ w. not (has_reply_room w)), switches_pass (λ w. not (has_request_room w).zero), switches_pass (λ w. not (has_request_room w).one), any_passes modules (λ memory_module. is_some memory_module.inp))

-- where a machine is one block, the rooms of that block are all there are
pub own_are_all : (b : BlockState) (rooms : Rooms) → AreOwnRooms b rooms → AreRoomsOfAll (b ∷ []) rooms
own_are_all b rooms own = λ d partition are. rooms_are d partition (b ∷ []) are rooms (let nowhere = none_there 5 in let stages = are.cut.stages 0 in grind arith)

-- ---- which units hold something, as the blocks say it in order
module _ (c : Settings) (partition : List ℕ) (bs : List BlockState) (are : AreBlocks c.stages partition bs) (n : ℕ) (events : List Event) (stops : List Stop) (held : Held) where
  abbrev whole_holds : ℕ → Bool
  whole_holds u = holds c.stages (whole c (frame_of c.stages partition bs) n events stops) held u

  -- block i holds what its own units do
  holds_here : (u i : ℕ) → i < length bs → holds_at (block_at bs i) held u ≡ ((home partition u == i) && whole_holds u)
  holds_here u i within =
      by_kind c.stages (λ u. holds_at (block_at bs i) held u ≡ ((home partition u == i) && whole_holds u))
      (λ u h. grind (arith, if_home switches _ _ _ are.cut u h (switch_holds held) i within, are.cut.stages i within, sizes c.stages are.some_stages are.few_stages, is_switch, replies_is, lane_is))
      (λ j h. grind (arith, if_home modules _ _ _ are.cut j h (module_holds held) i within, are.cut.stages i within, unit_of_module, memory_module_is))
      (λ p h. grind (arith, if_home elements _ _ _ are.cut p h (element_holds held) i within, are.cut.stages i within, unit_of_element, element_is))
      (grind (arith, are.cut.stages i within, unit_of_none)) u

pub held_by_all : (bs : List BlockState) (held : Held) (set : List ℕ) (i : ℕ) → length bs ≤ i → ((u : ℕ) → has_unit set u ≡ list_any (λ b. holds_at b held u) (take i bs)) → IsSetOfAll bs held set
held_by_all bs held set i all are c partition n events stops blocks u =
    are u ∙ ap (list_any (λ b. holds_at b held u)) (take_all i bs all)
    ∙ any_home _ _ _ bs (holds_here c partition bs blocks n events stops held u) (λ h. grind (arith, unit_of_none, blocks.cut.homes))

-- ---- a machine is quiet where each of its units is, and so where each of its blocks is
-- what is true of each element of a list
all_if : {X : Type 0} (t : X → Bool) (d : X) (xs : List X) → ((i : ℕ) → i < length xs → t (get_or xs i d) ≡ true) → list_all t xs ≡ true
all_if t d xs h = list_all-from_AllPass t xs (All-from_get_or (λ x. t x ≡ true) xs d h)

-- of a list that is given place by place
module _ {X : Type 0} (t : X → Bool) (n : ℕ) (f : ℕ → X) where
  all_places : ((k : ℕ) → k < n → t (f k) ≡ true) → list_all t (places n f) ≡ true
  all_places h = all_if t (f 0) (places n f) (grind (arith, length-places, places_at))

  at_place : list_all t (places n f) ≡ true → (k : ℕ) → k < n → t (f k) ≡ true
  at_place h k l = let all = AllPass-from_list_all t (places n f) h k (f 0) in grind (arith, length-places, places_at)

-- or of a table
at_table : {X : Type 0} (t : X → Bool) (m n : ℕ) (f : ℕ → ℕ → X) → list_all (λ xs. list_all t xs) (table m n f) ≡ true → (s x : ℕ) → s < m → x < n → t (f s x) ≡ true
at_table t m n f h s x hs hx = at_place t n (f s) (at_place (λ xs. list_all t xs) m (λ s. places n (f s)) h s hs) x hx

-- ---- units by their numbers
pub record AreQuiet (d : ℕ) (f : Frame) : Type 0 where
  pub switches : (n : ℕ) → n < switch_count d → quiet_switch (f.switch n) ≡ true
  pub modules : (m : ℕ) → m < 2 ^ d → quiet_module (f.memory_module m) ≡ true
  pub elements : (p : ℕ) → p < 2 ^ d → quiet_element (f.element p) ≡ true

module _ (c : Settings) (low : 1 ≤ c.stages) (high : c.stages ≤ 6) (f : Frame) (n : ℕ) (events : List Event) (stops : List Stop) where
  pub quiet_if : AreQuiet c.stages f → is_quiet (whole c f n events stops) ≡ true
  unfolding whole
  quiet_if q = let switch_small = λ (s x : ℕ) (hs : s < c.stages) (hx : x < size c). number_small c.stages s (x / 2) hs in grind (arith, all_places, sizes)

  pub quiet_units : is_quiet (whole c f n events stops) ≡ true → AreQuiet c.stages f
  unfolding whole
  quiet_units q =
      let lane = at_table (λ (l : Lane). is_empty l.queue && is_empty l.records) c.stages (size c) (λ s x. (sized_lane c f s x).lane) (grind arith) in
      let queue = at_table (λ (q : List ReplyMessage). is_empty q) c.stages (size c) (λ s y. (sized_replies c f s y).replies) (grind arith) in
      record {
        switches = λ n h.
            let even = 2 * index_of c.stages n in
            grind (arith, is_switch c.stages n h, sizes c.stages low high, lane (stage_of c.stages n) even, lane (stage_of c.stages n) (even + 1), queue (stage_of c.stages n) even, queue (stage_of c.stages n) (even + 1));
        modules = at_place quiet_module (size c) (λ k. f.memory_module k) (grind arith);
        elements = λ p hp. let it = at_place (λ (v : Element). has_stopped v.core.activity && is_empty v.interface.opened && is_empty v.interface.pending) (size c) (λ p. element_of (f.element p)) (grind arith) p hp in grind arith;
      }

-- ---- all blocks
module _ (d : ℕ) (partition : List ℕ) (bs : List BlockState) (are : AreBlocks d partition bs) where
  pub blocks_quiet : AreQuiet d (frame_of d partition bs) → list_all quiet_block bs ≡ true
  blocks_quiet q = all_if quiet_block no_block bs (λ k within.
      let shape = are.shaped k within in
      let switch = all_if (or_elsewhere quiet_switch) None (block_at bs k).switches (grind (arith, here switches _ _ _ are.cut, q.switches)) in
      let memory_module = all_if (or_elsewhere quiet_module) None (block_at bs k).modules (grind (arith, here modules _ _ _ are.cut, q.modules)) in
      let element = all_if (or_elsewhere quiet_element) None (block_at bs k).elements (grind (arith, here elements _ _ _ are.cut, q.elements)) in
      grind arith)

  pub units_quiet : list_all quiet_block bs ≡ true → AreQuiet d (frame_of d partition bs)
  units_quiet q = let stands = at_home elements d partition bs are.cut in grind (arith, AllPass-from_list_all)

pub quiet_is : (c : Settings) (partition : List ℕ) (bs : List BlockState) → AreBlocks c.stages partition bs → (n : ℕ) (events : List Event) (stops : List Stop)
    → list_all quiet_block bs ≡ is_quiet (whole c (frame_of c.stages partition bs) n events stops)
quiet_is c partition bs are n events stops = grind (arith, quiet_if, units_quiet, blocks_quiet, quiet_units)
