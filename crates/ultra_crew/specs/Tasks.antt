-- the tasks of the workers, and their results
use Rattle.std.specs.Prelude.{◌≡◌, ℕ, ◌+◌, ◌%◌, ◌==◌, ◌<◌, ◌≤◌, min, max, List, [], ◌∷◌, Bool, Vec, filter, length, slice_index_or, vec_capacity}
use Rattle.std.specs.Global.{Global}
use Rattle.ultra_isa.specs.declared.Instr.{Instr}
use Rattle.ultra_block_core.specs.{BlockState.BlockState, Making.{CanMake, after_half}, declared.{half.Half.Half, rooms.Rooms.Rooms}}
use Rattle.ultra_crew.specs.declared.task.BlockTask.{BlockTask}

-- the tasks of all blocks, by the blocks' numbers from k on
abbrev pub task : ℕ → BlockState → BlockTask
task k b = record { number = k; block = b }

abbrev pub tasks_from : ℕ → List BlockState → List BlockTask
tasks_from k [] = []
tasks_from k (b ∷ bs) = task k b ∷ tasks_from (k + 1) bs

-- worker w of several does the tasks of the blocks whose number is w modulo that of the workers
abbrev pub is_of_worker : ℕ → ℕ → BlockTask → Bool
is_of_worker workers w t = t.number % workers == w

abbrev pub team : ℕ → ℕ → List BlockTask → List BlockTask
team workers w tasks = filter (is_of_worker workers w) tasks

-- how many of n workers have one of `count` blocks: the first of them, and at least one
abbrev pub busy_workers : ℕ → ℕ → ℕ
busy_workers workers count = max (min workers count) 1

-- these are the teams of all workers, to which these blocks were dealt
abbrev pub AreTeams : ℕ → List (Vec BlockTask Global) → List BlockState → Type 0
AreTeams workers teams bs =
    (w : ℕ) (d : Vec BlockTask Global) → w < workers
    → (slice_index_or teams w d).items ≡ team workers w (tasks_from 0 bs)

-- and these are teams of all workers, to which nothing is dealt yet
pub record AreEmptyTeams (workers : ℕ) (teams : List (Vec BlockTask Global)) : Type 0 where
  pub count : length teams ≡ workers
  pub tasks : AreTeams workers teams []

-- a team holds n tasks without more memory
abbrev pub HasRoom : ℕ → Vec BlockTask Global → Type 0
HasRoom n team = n ≤ vec_capacity team

-- a task that is done keeps its number
abbrev pub task_after_half : Half → Rooms → List Instr → BlockTask → BlockTask
task_after_half h rooms program t = record t { block = after_half h rooms program t.block }

-- by the program of its block
abbrev pub task_after_own_half : Half → Rooms → BlockTask → BlockTask
task_after_own_half h rooms t = task_after_half h rooms t.block.program t

abbrev pub CanBeMade : List Instr → Half → BlockTask → Type 0
CanBeMade program h t = CanMake program h t.block
