-- what each half of a cycle does to a machine cut into blocks, what it asks, and what blocks list
-- in it
use Rattle.std.specs.Prelude.{◌≡◌, ℕ, ◌+◌, ◌<◌, ◌≤◌, List, length, map, ◌-◌, ◌*◌, ◌^◌, [], None, ◌++◌, All}
use Rattle.ultra_partition.specs.Prelude.{Rooms as BlockRooms, most_events, Frame, AreClosedToReplies, AreClosedToRequests, AreAlike, ReplyMessage, executes, sends_replies, sends_requests, serves, takes_replies, takes_requests, reply_to, delivery_events, servings, combinations, issues, stops, Event, Instr, Stop, IsRanked, of_rank, ForSome, joined, IsShaped, CanMake, after_half, after_own_half, CanExecute, CanTakeReplies, CanTakeRequests}
use Rattle.ultra_partition.specs.Events.{event_rank_count, IsInOrder, event_rank, merged_events, stop_rank, merged_stops}
use Rattle.ultra_partition.specs.Cut.{IsCut, block_at, frame_of, first, BlockState}
use Rattle.ultra_partition.specs.Exchange.{AreThere, AreSingle, on_each, MessageKind, Replies, Requests}
pub use Rattle.ultra_block_core.specs.declared.half.Half.{Half}
pub use Rattle.ultra_block_core.specs.declared.half.Half.TheVariants.{SendReplies, TakeReplies, Serve, SendRequests, TakeRequests, Execute}
use Rattle.ultra_topology.specs.declared.TheConstants.{MOST_UNITS}

-- these are the rooms of a frame of a machine of d stages, as its blocks have noted them
pub record AreRooms (d : ℕ) (f : Frame) (rooms : BlockRooms) : Type 0 where
  pub replies : AreClosedToReplies d f rooms.no_reply_room
  pub requests : AreClosedToRequests d f rooms.no_request_room

-- every block makes the half, of a machine that runs the program
abbrev pub all_after_half : Half → BlockRooms → List Instr → List BlockState → List BlockState
all_after_half half rooms program bs = map (after_half half rooms program) bs

-- or each by its own program
abbrev pub all_after_own_half : Half → BlockRooms → List BlockState → List BlockState
all_after_own_half half rooms bs = map (after_own_half half rooms) bs

-- a fact is true of each block
abbrev pub OfEach : (BlockState → Type 0) → List BlockState → Type 0
OfEach P bs = (k : ℕ) → k < length bs → P (block_at bs k)

-- there is memory for the events of one more half
abbrev pub HasHalfRoom : BlockState → Type 0
HasHalfRoom b = length b.events + 2 * MOST_UNITS ≤ most_events

-- each block may make the half, in a machine that runs the program
abbrev pub AllCanMake : List Instr → Half → List BlockState → Type 0
AllCanMake program half bs = OfEach (CanMake program half) bs

module _ {X : Type 0} (rank : X → ℕ) (low high : ℕ) where
  -- the ranks ascend, from `low` on and below `high`
  pub record InRanks (xs : List X) : Type 0 where
    pub ranked : IsRanked rank high xs
    pub from : All (λ x. low ≤ rank x) xs

  -- what blocks list is merged into this: each list ascends by rank, and so does the whole, which
  -- has of each rank what they have, block by block
  pub record AreMerged (list : BlockState → List X) (bs : List BlockState) (all : List X)
      : Type 0 where
    pub each : OfEach (λ b. InRanks (list b)) bs
    pub whole : InRanks all
    pub same : (r : ℕ) → of_rank rank r (joined (map list bs)) ≡ of_rank rank r all

-- ---- what a half does to the frame of a machine of d stages, and what happens in it

module _ (d n : ℕ) (rooms : BlockRooms) (program : List Instr) (f : Frame) where
  abbrev pub frame_after : Half → Frame
  frame_after SendReplies = sends_replies d rooms.no_reply_room f
  frame_after TakeReplies = takes_replies d f
  frame_after Serve = serves d f
  frame_after SendRequests = sends_requests d rooms.no_request_room f
  frame_after TakeRequests = takes_requests d n f
  frame_after Execute = executes d program f

  -- the events, in the order of the rules
  abbrev pub events_in : Half → List Event
  events_in TakeReplies = delivery_events d f
  events_in Serve = servings d f
  events_in TakeRequests = combinations d n f
  events_in Execute = issues d program f
  events_in half = []

-- what has happened by the end of a half has ranks below this
abbrev pub rank_after : Half → ℕ
rank_after SendReplies = 0
rank_after TakeReplies = MOST_UNITS
rank_after TakeRequests = 3 * MOST_UNITS
rank_after Execute = event_rank_count
rank_after half = 2 * MOST_UNITS

-- and what happens in it, from this on: each half in which anything happens has a rank for each
-- unit
abbrev pub first_rank : Half → ℕ
first_rank SendRequests = 2 * MOST_UNITS
first_rank half = rank_after half - MOST_UNITS

-- what has been listed when a half begins; a cycle begins with nothing
abbrev pub listed_before : {E : Type 0} → Half → List E → List E
listed_before SendReplies so_far = []
listed_before half so_far = so_far

-- the last half completes a cycle
abbrev pub cycles_made : Half → ℕ
cycles_made Execute = 1
cycles_made half = 0

-- ---- the halves

-- no message of a kind is on a link of a machine of d stages
abbrev pub HasNone : MessageKind → ℕ → List BlockState → Type 0
HasNone kind d bs = (l : ℕ) → l < (d + 1) * 2 ^ d → first (on_each kind bs l) ≡ None

module _ (d : ℕ) (partition : List ℕ) where
  -- the blocks of a machine of d stages, cut by the partition
  pub record AreBlocks (bs : List BlockState) : Type 0 where
    pub some_stages : 1 ≤ d
    pub few_stages : d ≤ 6
    pub cut : IsCut d partition bs
    pub shaped : OfEach (IsShaped d) bs

  -- what holds of blocks before and after a half: they run the same program, and none has many
  -- more events
  pub record AreBlocksAfter (half : Half) (old now : List BlockState) : Type 0 where
    pub blocks : AreBlocks now
    pub count : length now ≡ length old
    pub done : (k : ℕ) → k < length old
        → (block_at now k).done ≡ (block_at old k).done + cycles_made half
    pub runs : (k : ℕ) → k < length old → (block_at now k).program ≡ (block_at old k).program
    pub few : (k : ℕ) → k < length old
        → length (block_at now k).events
        ≤ length (listed_before half (block_at old k).events)
        + 2 * (rank_after half - first_rank half)

  -- cycle n, in which the blocks make the half
  module _ (n : ℕ) (program : List Instr) (bs : List BlockState) where
    abbrev f : Frame
    f = frame_of d partition bs

    -- messages leave where none is on a link, and are taken where each is in the block to which it
    -- leads; requests are combined in cycle n
    abbrev pub AreReady : Half → Type 0
    AreReady SendReplies = HasNone Replies d bs
    AreReady TakeReplies = AreThere Replies d partition bs
    AreReady SendRequests = HasNone Requests d bs
    AreReady TakeRequests = AreThere Requests d partition bs × OfEach (λ b. b.done ≡ n) bs
    AreReady half = Unit {0}

    -- the whole machine can make it
    abbrev pub CanMakeTogether : Half → Type 0
    CanMakeTogether TakeReplies = CanTakeReplies d f
    CanMakeTogether TakeRequests = CanTakeRequests d f
    CanMakeTogether Execute =
        OfEach (λ b. b.program ≡ program) bs × OfEach (λ b. b.done < 2 ^ 32 - 1) bs
        × OfEach (λ b. b.stops ≡ []) bs × CanExecute d f
    CanMakeTogether half = Unit {0}

    -- a reply on the link to a processing element names it; each that makes a step knows which one
    -- it is
    abbrev pub AreNamed : Half → Type 0
    AreNamed TakeReplies =
        (p : ℕ) → p < 2 ^ d → ForSome (reply_to d f p) (λ (r : ReplyMessage). r.pe ≡ p)
    AreNamed Execute = (p : ℕ) → p < 2 ^ d → (f.element p).processor.site.pe ≡ p
    AreNamed half = Unit {0}

    module _ (now : List BlockState) where
      -- each message that has left in a half is in one block
      abbrev pub HaveLeft : Half → Type 0
      HaveLeft SendReplies = AreSingle Replies now
      HaveLeft SendRequests = AreSingle Requests now
      HaveLeft half = Unit {0}

      -- stops are listed in the last half
      abbrev pub HaveStopped : Half → Type 0
      HaveStopped Execute = AreMerged stop_rank 0 64 (λ b. b.stops) now (stops d program f)
      HaveStopped half = OfEach (λ b. b.stops ≡ []) now

    -- blocks that have made it are the machine after it. The events that they have listed by then
    -- are those that have happened so far, or in the half
    pub record HaveMade (half : Half) (rooms : BlockRooms) (now : List BlockState) : Type 0 where
      pub blocks : AreBlocksAfter half bs now
      pub frame : AreAlike d (frame_of d partition now) (frame_after d n rooms program f half)
      pub left : HaveLeft now half
      pub events : AreNamed half → (so_far : List Event)
          → AreMerged (event_rank d) 0 (first_rank half)
          (λ b. listed_before half b.events) bs so_far
          → AreMerged (event_rank d) 0 (rank_after half) (λ b. b.events) now
          (so_far ++ events_in d n rooms program f half)
      pub stops : OfEach (λ b. listed_before half b.stops ≡ []) bs → HaveStopped now half

abbrev pub HalfLaw : Type 0
HalfLaw =
    (d n : ℕ) (partition : List ℕ) (half : Half) (rooms : BlockRooms) (program : List Instr)
    (bs : List BlockState)
    → AreBlocks d partition bs → AreReady d partition n program bs half
    → HaveMade d partition n program bs half rooms (all_after_half half rooms program bs)

-- each block can make a half if the whole machine can, and the block has memory for the events
abbrev pub CanMakeLaw : Type 0
CanMakeLaw =
    (d n : ℕ) (partition : List ℕ) (half : Half) (program : List Instr) (bs : List BlockState)
    → AreBlocks d partition bs → AreReady d partition n program bs half
    → CanMakeTogether d partition n program bs half → OfEach HasHalfRoom bs
    → AllCanMake program half bs

-- what is merged so is what the blocks list together
abbrev pub MergedLaw : Type 0
MergedLaw =
    (d : ℕ) (bs : List BlockState) (events : List Event) (stops : List Stop)
    → AreMerged (event_rank d) 0 event_rank_count (λ b. b.events) bs events
    → AreMerged stop_rank 0 64 (λ b. b.stops) bs stops
    → (merged_events d bs ≡ events) × (merged_stops d bs ≡ stops) × OfEach (IsInOrder d) bs
