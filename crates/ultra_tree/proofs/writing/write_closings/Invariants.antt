use Rattle.std.proofs.Common.{◌-◌}
use Rattle.ultra_msg.specs.declared.sink.SinkFault.{SinkFault}
use Rattle.ultra_msg.proofs.Writing.{IsSoFar}
use Rattle.ultra_tree.specs.Text.{closings}
use Rattle.ultra_tree.proofs.writing.write_closings.Given as goal

abbrev pub invariant-loop : goal.invariant-loop
invariant-loop g l = IsSoFar SinkFault (closings l.count) (closings (l.count - l.counter)) (g.S.Sink.taken l.initial.sink) (g.S.Sink.taken l.sink) (g.S.Sink.failures l.initial.sink) (g.S.Sink.failures l.sink)
