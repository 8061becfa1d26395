use Rattle.std.proofs.Common.{[], subst}
use Rattle.ultra_io.specs.TextBuffer.{GoesOn}
use Rattle.ultra_io.proofs.Writing.{◌moved◌}
use Rattle.ultra_io.proofs.text_buffer.TextBuffer.make_room.Goals as goal

pub returns-clause-goes_on : goal.returns-clause-goes_on
returns-clause-goes_on g c =
    subst (GoesOn g.S.Sink.taken g.S.Sink.failures [] c.args.self.now c.args.at c.flush.new.self) c.flush.ensures.empty (c.end.ensures moved c.flush.ensures.writes)
