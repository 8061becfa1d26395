use Rattle.std.proofs.Common.{◌≡◌, ◌≤◌, ◌+◌, ℕ, length}
use Rattle.std.specs.Prelude.{All, vec_capacity}
use Rattle.ultra_sweep_command.specs.SeatResults.{IsFresh}
use Rattle.ultra_sweep_command.proofs.sweep_threads.SweepThreads.start.Given as goal

abbrev pub invariant-loop : goal.invariant-loop
invariant-loop g l = record {
  task : l.sweep_threads.task ≡ l.initial.sweep_threads.task;
  fresh : (n : ℕ) × (n + l.counter ≡ l.fn.count + 1) × IsFresh l.initial.sweep_threads.task.board.now n l.sweep_threads.seat;
  parts : All (λ thread. thread.promise ≡ l.initial.sweep_threads.task) l.sweep_threads.threads.items;
  threads : length l.sweep_threads.threads.items ≡ l.counter;
  room : l.fn.count ≤ vec_capacity l.sweep_threads.threads;
}
