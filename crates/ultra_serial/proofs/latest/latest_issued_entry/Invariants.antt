use Rattle.std.proofs.Common.{take}
use Rattle.ultra_serial_law.specs.Log.{log_of}
use Rattle.ultra_serial.specs.LatestIssue.{IsLatestIssueOf}
use Rattle.ultra_serial.proofs.latest.latest_issued_entry.Given as goal

abbrev pub invariant-loop-entry : goal.invariant-loop-entry
invariant-loop-entry l = IsLatestIssueOf (log_of l.log) (take l.entry-index l.list) l.latest
