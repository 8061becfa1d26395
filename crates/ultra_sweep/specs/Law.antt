-- what the results of all calls of `work` on one board are; this project's profile
use Rattle.std.specs.Prelude.{◌≡◌, ℕ, List, true}
use lib.ListN.{get_elem?}
use mathlib.Core.Option.{some}
use Rattle.atomic_table.specs.Table.{State}
use Rattle.ultra_board.specs.{declared.rule.{View.View, Limits.Limits}, View.{total_over_views, times}, Rule.IsBoardRule}
use Rattle.ultra_sweep.specs.{declared.{job.JobResult.JobResult, gathering.GatherFault.{GatherFault, TheVariants.NoMemory}}, Job.job_numbers, Gather.{NamesEachOnce, ExplainsGatherFault}}

-- a call of `work` has ended well on the board: a seat is spent
pub record IsSomeSpent (views : List View) : Type 0 where
  pub place : ℕ
  pub view : View
  pub there : get_elem? views place ≡ some view
  pub spent : view.spent ≡ true

-- no number was drawn but by calls of `work` that ended well, and these are all their results: they
-- name what all seats have drawn
abbrev pub AreAllResults : List View → List JobResult → Type 0
AreAllResults views results =
    (i : ℕ) → total_over_views (λ (v : View). times i v.drawn) views ≡ times i (job_numbers results)

-- each job is named once, and `gather` gives them all or answers that memory was refused
pub record HasEachJobOnce (n : ℕ) (results : List JobResult) : Type 0 where
  pub once : NamesEachOnce n results
  pub no_other_fault : (fault : GatherFault) → ExplainsGatherFault n results fault
      → fault ≡ NoMemory

-- at every moment between two steps on a board
abbrev pub SweepLaw : Type 0
SweepLaw =
    (limits : Limits) (state : State ℕ View) → IsBoardRule limits state → IsSomeSpent state.views
    → (results : List JobResult) → AreAllResults state.views results
    → HasEachJobOnce limits.limit results
