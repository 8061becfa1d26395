-- a machine cut into blocks in the course of a cycle, and what is asked of it, however it is cut
use Rattle.std.specs.Prelude.{◌≡◌, ℕ, List, Bool}
use Rattle.ultra_partition.specs.Prelude.{is_quiet, Rooms, IsClear, IsFrameOf, whole, Settings, Machine, Event, Instr, Stop}
use Rattle.ultra_partition.specs.{Cut.{frame_of, BlockState}, Halves.{AreBlocks, AreRooms, OfEach}, Events.{IsInOrder, merged_events, merged_stops}}

-- each block runs the program and has made n cycles, and together they are the machine m, in which
-- this has happened in the cycle so far
pub record AreMachine (c : Settings) (program : List Instr) (partition : List ℕ) (n : ℕ)
    (events : List Event) (stops : List Stop) (m : Machine) (bs : List BlockState) : Type 0 where
  pub blocks : AreBlocks c.stages partition bs
  pub runs : OfEach (λ b. b.program ≡ program) bs
  pub done : OfEach (λ b. b.done ≡ n) bs
  pub machine : IsFrameOf c n (frame_of c.stages partition bs) events stops m

-- the machine that blocks make up after n cycles
abbrev pub machine_in : Settings → List ℕ → ℕ → List BlockState → Machine
machine_in c partition n bs =
    whole c (frame_of c.stages partition bs) n (merged_events c.stages bs)
    (merged_stops c.stages bs)

-- between two cycles: each block runs the program and has made n cycles. The blocks make up a
-- machine that is sound. No message is on a link, and each block lists what happened last in the
-- order of the rules
pub record AreWhole (c : Settings) (program : List Instr) (partition : List ℕ) (n : ℕ)
    (bs : List BlockState) : Type 0 where
  pub machine :
      AreMachine c program partition n (merged_events c.stages bs) (merged_stops c.stages bs)
      (machine_in c partition n bs) bs
  pub clear : IsClear c.stages (frame_of c.stages partition bs)
  pub in_order : OfEach (IsInOrder c.stages) bs

-- these are the rooms of the whole machine that some blocks make up
abbrev pub AreRoomsOfAll : List BlockState → Rooms → Type 0
AreRoomsOfAll bs rooms =
    (d : ℕ) (partition : List ℕ)
    → AreBlocks d partition bs → AreRooms d (frame_of d partition bs) rooms

-- this is whether that machine is quiet
abbrev pub IsQuietOfAll : List BlockState → Bool → Type 0
IsQuietOfAll bs quiet =
    (c : Settings) (partition : List ℕ) (n : ℕ) (events : List Event) (stops : List Stop)
    → AreBlocks c.stages partition bs
    → quiet ≡ is_quiet (whole c (frame_of c.stages partition bs) n events stops)
