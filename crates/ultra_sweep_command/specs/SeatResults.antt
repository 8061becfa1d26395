-- the threads of a sweep, and what they bring back; this project's profile
use Rattle.std.specs.Prelude.{◌≡◌, ℕ, ◌+◌, ◌-◌, min, if◌then◌else◌, List, [], All, true, length, Result, Ok, Err}
use Rattle.ultra_board.specs.{Seat.{SeatState, BoardState}, declared.rule.View.View}
use Rattle.ultra_args.specs.declared.sweep_output.SweepOutput.{SweepOutput}
use Rattle.ultra_sweep.specs.{declared.job.Job.Job, Job.{job_numbers, IsResultAmong}}
use Rattle.ultra_sweep_command.specs.{Output.job_output, declared.{SweepPlan.SweepPlan, seat_results.SeatResults.SeatResults, task.SweepTask.SweepTask, sweep_threads.SweepThreads.SweepThreads}}

-- how many threads are started: the caller's does jobs too, or it watches, with one of 64 seats
abbrev pub threads_of : SweepPlan → ℕ
threads_of plan =
    if plan.progress then min plan.workers 63 else plan.workers - 1

-- a seat with this many places that has drawn nothing and holds no pass
pub record IsFresh (board : BoardState) (places : ℕ) (seat : SeatState) : Type 0 where
  pub same_board : seat.board ≡ board.id
  pub same_places : seat.view.places ≡ places
  pub same_limit : seat.view.limit ≡ board.limits.limit
  pub undrawn : seat.view.drawn ≡ []
  pub no_pass : seat.view.held ≡ 0

-- a seat with this many places, and a result for each job that it has drawn
pub record AreSeatResults (output : SweepOutput) (board : BoardState) (jobs : List Job) (places : ℕ)
    (seat_results : SeatResults) : Type 0 where
  pub same_board : seat_results.seat.board ≡ board.id
  pub same_places : seat_results.seat.view.places ≡ places
  pub same_limit : seat_results.seat.view.limit ≡ board.limits.limit
  pub drawn : seat_results.seat.view.drawn ≡ job_numbers seat_results.results.items
  pub results : All (IsResultAmong (job_output output) jobs) seat_results.results.items

-- all of it: no job is left to draw
pub record AreWholeResults (output : SweepOutput) (board : BoardState) (jobs : List Job)
    (places : ℕ) (seat_results : SeatResults) : Type 0 where
  pub part : AreSeatResults output board jobs places seat_results
  pub spent : seat_results.seat.view.spent ≡ true

-- what a thread of one place gives back: results, and no job is left to draw; or its seat as it was,
-- where memory for results was refused
abbrev pub HasTakenPart : SweepOutput → BoardState → List Job → Result SeatResults SeatState
    → Type 0
HasTakenPart output board jobs (Ok seat_results) =
    AreWholeResults output board jobs 1 seat_results
HasTakenPart output board jobs (Err seat) = IsFresh board 1 seat

-- the board is one of these jobs
abbrev pub IsSweepTask : SweepTask → Type 0
IsSweepTask task = task.board.now.limits.limit ≡ length task.jobs.now

-- the caller's seat is fresh, and each thread takes part in the task
pub record AreSweepThreads (sweep_threads : SweepThreads) : Type 0 where
  pub task : IsSweepTask sweep_threads.task
  pub fresh : IsFresh sweep_threads.task.board.now 1 sweep_threads.seat
  pub parts : All (λ thread. thread.promise ≡ sweep_threads.task) sweep_threads.threads.items

-- the count of all finished jobs was read once, and nothing else was done
abbrev pub HasRead : View → View → Type 0
HasRead v w = w ≡ record v { seen = w.seen; reads = v.reads + 1 }
