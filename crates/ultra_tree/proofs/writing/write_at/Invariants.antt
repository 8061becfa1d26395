use Rattle.std.proofs.Common.{◌+◌, ◌<◌, ◌≤◌, None}
use Rattle.ultra_msg.specs.declared.sink.SinkFault.{SinkFault}
use Rattle.ultra_msg.proofs.Writing.{IsSoFar}
use Rattle.ultra_tree.specs.{Counts.{leaf_count, HasRightCounts}, Places.piece}
use Rattle.ultra_tree.proofs.writing.write_at.Given as goal

-- what is left to write is the text of the place in what is left
abbrev pub invariant-loop-node : goal.invariant-loop-node
invariant-loop-node g l = record {
  right_counts : HasRightCounts l.node;
  within : l.place < leaf_count l.node;
  depth : l.closing + leaf_count l.node ≤ leaf_count l.initial.node;
  so_far : IsSoFar SinkFault (piece l.initial.node l.initial.place 0 None) (piece l.node l.place l.closing l.mark) (g.S.Sink.taken l.initial.sink) (g.S.Sink.taken l.sink) (g.S.Sink.failures l.initial.sink) (g.S.Sink.failures l.sink);
}
