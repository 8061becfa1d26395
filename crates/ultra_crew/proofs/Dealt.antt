-- What the workers have when blocks are dealt to them.
use Rattle.std.proofs.Common.{◌≡◌, ℕ, zero, suc, ◌+◌, ◌<◌, List, [], ◌∷◌, refl, subst, arith, length, get_or, map, All, Vec, Global}
use Rattle.std.proofs.lemmas.List.{get_or_default, Elements.All-filter}
use Rattle.ultra_isa.specs.declared.Instr.{Instr}
use Rattle.ultra_block_core.specs.{BlockState.BlockState, declared.{half.Half.Half, rooms.Rooms.Rooms}, Making.CanMake}
use Rattle.ultra_partition.specs.{Cut.no_block, Halves.{AllCanMake, all_after_half}}
use Rattle.ultra_crew.specs.Tasks.{AreTeams, CanBeMade, is_of_worker, task_after_half, tasks_from, team}
use Rattle.ultra_crew.specs.{declared.task.BlockTask.BlockTask, ExpectedResults.teams_of}

module _ (h : Half) (rooms : Rooms) (program : List Instr) where
  -- the tasks of a team, when they are done, are its tasks of the blocks when they are
  team_made : (workers w k : ℕ) (bs : List BlockState) → map (task_after_half h rooms program) (team workers w (tasks_from k bs)) ≡ team workers w (tasks_from k (all_after_half h rooms program bs))
  team_made workers w k [] = refl
  team_made workers w k (b ∷ bs) =
      let more = team_made workers w (k + 1) bs in
      grind arith

  tasks_can : (k : ℕ) (bs : List BlockState) → All (CanMake program h) bs → All (CanBeMade program h) (tasks_from k bs)
  tasks_can k [] can i d below = absurd (omega arith)
  tasks_can k (b ∷ bs) can zero d below = can 0 b (omega arith)
  tasks_can k (b ∷ bs) can (suc i) d below = tasks_can (k + 1) bs (λ j e inside. can (suc j) e (omega arith)) i d (omega arith)

  each_can : (bs : List BlockState) → AllCanMake program h bs → All (CanMake program h) bs
  each_can bs can i d below = subst (CanMake program h) (get_or_default bs i no_block d below) (can i below)

  module _ (workers : ℕ) (bs : List BlockState) (teams : List (Vec BlockTask Global)) (many : length teams ≡ workers) (dealt : AreTeams workers teams bs) where
    pub teams_can : AllCanMake program h bs → (w : ℕ) (d : Vec BlockTask Global) → w < length teams → All (CanBeMade program h) (get_or teams w d).items
    teams_can can w d below =
        let tasks = All-filter (is_of_worker workers w) (CanBeMade program h) (tasks_from 0 bs) (tasks_can 0 bs (each_can bs can)) in
        grind arith

    pub teams_made : (w : ℕ) (d : Vec BlockTask Global) → w < length teams → map (task_after_half h rooms program) (get_or teams w d).items ≡ teams_of workers (all_after_half h rooms program bs) w
    teams_made w d below = grind (arith, team_made)
