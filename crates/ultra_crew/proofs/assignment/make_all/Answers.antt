use Rattle.std.proofs.Common.{arith, refl}
use Rattle.ultra_crew.specs.{Tasks.{CanBeMade, task_after_own_half}, declared.task.BlockTask.BlockTask}
use Rattle.ultra_block_core.proofs.OwnProgram.{can_by_own}
use Rattle.ultra_crew.proofs.Mapped.{all_done, holds_next, stepped}
use Rattle.ultra_crew.proofs.assignment.make_all.Goals as goal

pub loop-task-preserved : goal.loop-task-preserved
loop-task-preserved g c =
    stepped (task_after_own_half c.args.name.half c.args.rooms.now) c.args.team.now c.loop-task.team c.loop-task.task-index c.make.new.self c.task-item.result
    (omega arith) c.loop-task.invariant c.make.ensures

pub loop-task-init : goal.loop-task-init
loop-task-init g c = refl

pub make-requires-clause-ready : goal.make-requires-clause-ready
make-requires-clause-ready g c =
    let (program, can) = c.requires in
    holds_next (task_after_own_half c.args.name.half c.args.rooms.now) (λ (t : BlockTask). CanBeMade t.block.program c.args.name.half t) c.args.team.now c.loop-task.team c.loop-task.task-index c.task-item.result
    (omega arith) c.loop-task.invariant (λ i d below. can_by_own program _ c.args.name.half (can i d below))

pub returns : goal.returns
returns g c =
    all_done (task_after_own_half c.args.name.half c.args.rooms.now) c.args.team.now c.loop-task.team c.loop-task.task-index
    (omega arith) c.loop-task.invariant
