use Rattle.std.proofs.Common.{◌<◌}
use Rattle.ultra_model.specs.Machine.{size}
use Rattle.ultra_measure.specs.PeSet.{IsTaken}
use Rattle.ultra_measure.proofs.Known.{one_looked_at, left_within, taken_small}
use Rattle.ultra_measure.proofs.element_states.ElementStates.look_at_all.Goals as goal

pub look_at-requires-clause-pe : goal.look_at-requires-clause-pe
look_at-requires-clause-pe c =
    let b = c.args.blocks.now in
    let is : IsTaken c.in-Some.pe c.due.left c.take_first.new.self = rw c.in-Some.is at c.take_first.ensures.some in
    taken_small b.config b.program b.machine _ _ _ c.due.invariant.1 is

pub due-preserved : goal.due-preserved
due-preserved c =
    let b = c.args.blocks.now in
    let is : IsTaken c.in-Some.pe c.due.left c.take_first.new.self = rw c.in-Some.is at c.take_first.ensures.some in
    let small : c.in-Some.pe < size b.config = taken_small b.config b.program b.machine _ _ _ c.due.invariant.1 is in
    (one_looked_at b.config b.program b.machine _ _ _ _ _ c.due.invariant.0 is small c.look_at.ensures.known c.look_at.ensures.others, left_within b.config b.program b.machine _ _ _ c.due.invariant.1 is)
