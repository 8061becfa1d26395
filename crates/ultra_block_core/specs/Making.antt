-- a half of a cycle, whichever it is, made by a block
use Rattle.std.specs.Prelude.{◌≡◌, ℕ, ◌-◌, ◌^◌, ◌<◌, List}
use Rattle.ultra_block_core.specs.{Prelude.{Instr, after_units}, declared.{half.Half.Half, rooms.Rooms.Rooms}, BlockState.{BlockState, HasEventRoom}, RepliesSent.{without_events, sends_replies}, RepliesTaken.{CanTakeRepliesAt, takes_replies}, Serving.serves, RequestsSent.sends_requests, RequestsTaken.{CanTakeRequestsAt, takes_requests}, Execution.{CanExecuteAt, counted, executes}}
use Rattle.ultra_block_core.specs.declared.half.Half.TheVariants.{SendReplies, TakeReplies, Serve, SendRequests, TakeRequests, Execute}
use Rattle.ultra_topology.specs.declared.TheConstants.{MOST_UNITS}

-- a fact is true at each unit
abbrev pub AtUnits : (ℕ → BlockState → Type 0) → BlockState → Type 0
AtUnits P b = (k : ℕ) → k < MOST_UNITS → P k b

-- the program is the block's, fewer than 2^32 - 1 cycles are done, and each processing element has
-- issued few requests
pub record CanExecute (program : List Instr) (b : BlockState) : Type 0 where
  pub runs : b.program ≡ program
  pub few : b.done < 2 ^ 32 - 1
  pub units : AtUnits CanExecuteAt b

-- the conditions of the half, in a machine that runs the program
abbrev pub CanMake : List Instr → Half → BlockState → Type 0
CanMake program TakeReplies b = AtUnits CanTakeRepliesAt b
CanMake program Serve b = AtUnits HasEventRoom b
CanMake program TakeRequests b = AtUnits CanTakeRequestsAt b
CanMake program Execute b = CanExecute program b
CanMake program other b = Unit {0}

-- the block after it
abbrev pub after_half : Half → Rooms → List Instr → BlockState → BlockState
after_half SendReplies rooms program b =
    after_units (sends_replies rooms.no_reply_room) MOST_UNITS (without_events b)
after_half TakeReplies rooms program b = after_units takes_replies MOST_UNITS b
after_half Serve rooms program b = after_units serves MOST_UNITS b
after_half SendRequests rooms program b =
    after_units (sends_requests rooms.no_request_room) MOST_UNITS b
after_half TakeRequests rooms program b = after_units takes_requests MOST_UNITS b
after_half Execute rooms program b = counted (after_units (executes program) MOST_UNITS b)

-- by the program that it has
abbrev pub after_own_half : Half → Rooms → BlockState → BlockState
after_own_half half rooms b = after_half half rooms b.program b
