use Rattle.std.proofs.Common.{◌≡◌}
use Rattle.ultra_sweep_command.proofs.sweep_threads.SweepThreads.stop_early.Given as goal

abbrev pub invariant-loop : goal.invariant-loop
invariant-loop g l = l.seat.board ≡ l.initial.seat.board
