use Rattle.std.proofs.Common.{arith, take_all}
use Rattle.ultra_partition.proofs.Questions.{rooms_are}
use Rattle.ultra_partition.proofs.answers.note_rooms.Goals as goal

pub returns : goal.returns
returns c = λ d partition are.
    rooms_are _ _ _ are _ (rw (take_all c.loop-block.block-index c.args.blocks.now (omega arith)) at (c.loop-block.invariant d are.cut.stages))
