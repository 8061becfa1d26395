use Rattle.std.proofs.Common.{drop}
use Rattle.ultra_msg.specs.{declared.sink.SinkFault.SinkFault, Bytes.joined_pieces}
use Rattle.ultra_msg.proofs.Writing.{IsSoFar}
use Rattle.ultra_msg.proofs.pieces.write_pieces.Given as goal

abbrev pub invariant-loop-piece : goal.invariant-loop-piece
invariant-loop-piece g l = IsSoFar SinkFault (joined_pieces l.pieces) (joined_pieces (drop l.piece-index l.pieces)) (g.S.Sink.taken l.initial.sink) (g.S.Sink.taken l.sink) (g.S.Sink.failures l.initial.sink) (g.S.Sink.failures l.sink)
