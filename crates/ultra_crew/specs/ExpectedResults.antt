-- what a machine's workers give back, cycle by cycle: it follows from the machine at the start
use Rattle.std.specs.Prelude.{◌≡◌, ℕ, zero, suc, ◌+◌, ◌-◌, List}
use Rattle.ultra_isa.specs.declared.Instr.{Instr}
use Rattle.ultra_model.specs.{Machine.{Settings, Machine}, Phases.cycle}
use Rattle.ultra_block_core.specs.{BlockState.BlockState, declared.{half.Half.Half, rooms.Rooms.Rooms}}
use Rattle.ultra_block_core.specs.declared.half.Half.TheVariants.{SendReplies, TakeReplies, Serve, SendRequests, TakeRequests, Execute}
use Rattle.ultra_partition.specs.{declared.kind.MessageKind.TheVariants.{Replies, Requests}, Cut.frame_of, Halves.{AllCanMake, all_after_half}}
use Rattle.ultra_block.specs.State.{BlocksState}
use Rattle.ultra_crew.specs.{Tasks.{tasks_from, team}, declared.task.BlockTask.BlockTask, Words.words_of_rooms, Exchanged.exchanged, Start.first_blocks}

-- ---- several cycles
-- the machine n cycles later
unfoldable pub cycles_on : Settings → List Instr → ℕ → Machine → Machine
cycles_on c program zero m = m
cycles_on c program (suc n) m = cycle c program (cycles_on c program n m)

-- and in its blocks, which stay as they are cut
abbrev pub later : ℕ → BlocksState → BlocksState
later n b = record b { machine = cycles_on b.config b.program n b.machine }

-- ---- one cycle, which begins with these blocks
module _ (d : ℕ) (partition : List ℕ) (program : List Instr) (bs : List BlockState) where
  abbrev pub first_rooms : Rooms
  first_rooms = words_of_rooms d (frame_of d partition bs)

  unfoldable pub with_replies_sent : List BlockState
  with_replies_sent = all_after_half SendReplies first_rooms program bs

  unfoldable pub with_replies_taken : List BlockState
  with_replies_taken =
      all_after_half TakeReplies first_rooms program
      (exchanged Replies d partition with_replies_sent)

  unfoldable pub with_memory_served : List BlockState
  with_memory_served = all_after_half Serve first_rooms program with_replies_taken

  abbrev pub second_rooms : Rooms
  second_rooms = words_of_rooms d (frame_of d partition with_memory_served)

  unfoldable pub with_requests_sent : List BlockState
  with_requests_sent = all_after_half SendRequests second_rooms program with_memory_served

  unfoldable pub with_requests_taken : List BlockState
  with_requests_taken =
      all_after_half TakeRequests second_rooms program
      (exchanged Requests d partition with_requests_sent)

  unfoldable pub with_steps_made : List BlockState
  with_steps_made = all_after_half Execute second_rooms program with_requests_taken

  -- the blocks after each half
  abbrev pub blocks_after : Half → List BlockState
  blocks_after SendReplies = with_replies_sent
  blocks_after TakeReplies = with_replies_taken
  blocks_after Serve = with_memory_served
  blocks_after SendRequests = with_requests_sent
  blocks_after TakeRequests = with_requests_taken
  blocks_after Execute = with_steps_made

-- ---- the workers
-- the team of each of them, when the blocks are these
abbrev pub teams_of : ℕ → List BlockState → ℕ → List BlockTask
teams_of workers bs w = team workers w (tasks_from 0 bs)

-- the blocks may make a half, and what the workers give back after it is what is expected
pub record IsDue (results : ℕ → Half → ℕ → List BlockTask) (program : List Instr) (workers n : ℕ)
    (half : Half) (rooms : Rooms) (bs : List BlockState) : Type 0 where
  pub ready : AllCanMake program half bs
  pub settled :
      (w : ℕ) → results n half w ≡ teams_of workers (all_after_half half rooms program bs) w

-- what each gives back after a half of the next cycle of a machine
unfoldable pub results_in : ℕ → BlocksState → Half → ℕ → List BlockTask
results_in workers b h =
    teams_of workers (blocks_after b.config.stages b.partition b.program (first_blocks b) h)

-- what is expected of the workers of a machine, by cycle, half and worker
unfoldable pub expected_results_of : ℕ → BlocksState → ℕ → Half → ℕ → List BlockTask
expected_results_of workers b c = results_in workers (later (c - b.machine.cycles) b)

-- from now on these are the results of its workers, whose blocks run its program
pub record AreExpectedResults (results : ℕ → Half → ℕ → List BlockTask) (program : List Instr)
    (workers : ℕ)
    (b : BlocksState) : Type 0 where
  pub program_is : program ≡ b.program
  pub results_are :
      (n : ℕ) (h : Half) (w : ℕ)
      → results (b.machine.cycles + n) h w ≡ results_in workers (later n b) h w
