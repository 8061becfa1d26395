use Rattle.std.proofs.Common.{◌≡◌, ◌≤◌, [], length, drop}
use Rattle.ultra_serial.specs.PendingRow.{leaves_under}
use Rattle.ultra_serial.proofs.pending_row.latest_of.Given as goal

abbrev pub invariant-loop-index : goal.invariant-loop-index
invariant-loop-index l = record {
  within : l.index ≤ length l.requests;
  later : leaves_under l.pe l.cell (drop l.index l.requests) ≡ [];
}

abbrev pub decreases-loop-index : goal.decreases-loop-index
decreases-loop-index l = l.index
