use Rattle.std.proofs.Common.{◌≡◌, take}
use Rattle.ultra_serial_law.specs.Legal.{given}
use Rattle.ultra_serial.specs.Breach.{cells_past}
use Rattle.ultra_verdict.proofs.searching.value_after.Given as goal

abbrev pub invariant-loop-entry : goal.invariant-loop-entry
invariant-loop-entry l = l.value ≡ cells_past (given l.initial') (take l.entry-index l.entries) l.cell
