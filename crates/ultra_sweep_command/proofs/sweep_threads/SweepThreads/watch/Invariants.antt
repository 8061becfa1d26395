use Rattle.std.proofs.Common.{◌≡◌}
use Rattle.ultra_io.specs.Account.{SinkState}
use Rattle.ultra_sweep_command.specs.{SeatResults.AreSweepThreads, Shown.HasShown}
use Rattle.ultra_inputs.specs.Shown.{stream}
use Rattle.ultra_sweep_command.proofs.sweep_threads.SweepThreads.watch.Given as goal

abbrev pub invariant-loop : goal.invariant-loop
invariant-loop g l = record {
  can : (goal.iterator-loop g).can_next l.iterator';
  sweep_threads : AreSweepThreads l.self;
  task : l.self.task ≡ l.initial.self.task;
  threads : l.self.threads ≡ l.initial.self.threads;
  count : l.meter.count ≡ l.initial.meter.count;
  shown : (start : SinkState) → HasShown l.initial.meter start (stream (g.E.Sink.taken l.initial.err) (g.E.Sink.failures l.initial.err)) → HasShown l.meter start (stream (g.E.Sink.taken l.err) (g.E.Sink.failures l.err));
}
