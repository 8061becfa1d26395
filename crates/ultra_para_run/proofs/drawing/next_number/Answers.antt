use Rattle.std.proofs.{Common.◌*◌, Math.Nat.mod-add-mod}
use Rattle.ultra_para_run.specs.SeededSchedule.{next_number}
use Rattle.ultra_para_run.proofs.drawing.next_number.Goals as goal

pub returns : goal.returns
unfolding next_number
returns c = mod-add-mod (6364136223846793005 * c.args.x) 18446744073709551616 1442695040888963407
