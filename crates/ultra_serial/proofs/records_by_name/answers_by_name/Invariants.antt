use Rattle.std.proofs.Common.{take}
use Rattle.ultra_serial.specs.{ByName.list_named, RecordsByName.AreAnswersByName}
use Rattle.ultra_serial.proofs.records_by_name.answers_by_name.Given as goal

abbrev pub invariant-loop-index : goal.invariant-loop-index
invariant-loop-index l = AreAnswersByName (list_named l.named l.answers) (take l.index l.answers)
