use Rattle.std.proofs.Common.{◌≡◌, ◌≤◌, ◌-◌, ℕ, length}
use Rattle.std.specs.Prelude.{All, vec_capacity}
use Rattle.ultra_board.specs.View.{times, times_below}
use Rattle.ultra_sweep.specs.{Job.{job_numbers, IsResultAmong}, Work.HasDoneAll}
use Rattle.ultra_sweep.proofs.working.work.Given as goal

abbrev pub invariant-loop-number : goal.invariant-loop-number
invariant-loop-number g l = record {
  board : l.seat.board ≡ l.initial.seat.board;
  done : HasDoneAll (job_numbers l.results.items) l.initial.seat.view l.seat.view;
  results : All (IsResultAmong (g.G.JobGate.text l.gate) l.jobs) l.results.items;
  within : (i : ℕ) → times i (job_numbers l.results.items) ≤ times_below i (length l.jobs);
  room : length l.jobs ≤ vec_capacity l.results;
}

abbrev pub decreases-loop-number : goal.decreases-loop-number
decreases-loop-number g l = length l.jobs - length l.results.items
