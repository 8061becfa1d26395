use Rattle.std.proofs.Common.{◌≡◌}
use Rattle.ultra_crew.specs.Tasks.{task_after_own_half}
use Rattle.ultra_crew.proofs.Mapped.{changed}
use Rattle.ultra_crew.proofs.assignment.make_all.Given as goal

abbrev pub invariant-loop-task : goal.invariant-loop-task
invariant-loop-task g l = l.team ≡ changed (task_after_own_half l.name.half l.rooms) l.task-index l.initial.team
