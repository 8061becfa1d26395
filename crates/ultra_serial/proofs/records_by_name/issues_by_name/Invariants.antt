use Rattle.std.proofs.Common.{take}
use Rattle.ultra_serial.specs.{ByName.list_named, RecordsByName.AreIssuesByName}
use Rattle.ultra_serial.proofs.records_by_name.issues_by_name.Given as goal

abbrev pub invariant-loop-index : goal.invariant-loop-index
invariant-loop-index l = AreIssuesByName (list_named l.named l.issues) (take l.index l.issues)
