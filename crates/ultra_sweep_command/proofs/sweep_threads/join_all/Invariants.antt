use Rattle.std.proofs.Common.{◌≡◌, ◌+◌, length}
use Rattle.std.specs.Prelude.{All, IfOk}
use Rattle.ultra_sweep_command.specs.SeatResults.{AreWholeResults}
use Rattle.ultra_sweep_command.proofs.sweep_threads.join_all.Given as goal

abbrev pub invariant-loop-thread : goal.invariant-loop-thread
invariant-loop-thread g l = record {
  rest : All (λ thread. thread.promise ≡ l.task) l.thread-iterator.rest.items;
  count : length l.yielded + length l.thread-iterator.rest.items ≡ length l.fn.threads.items;
  all : IfOk l.all (AreWholeResults l.task.output.now l.task.board.now l.task.jobs.now (length l.yielded + 1));
}
