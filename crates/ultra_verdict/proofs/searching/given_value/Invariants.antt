use Rattle.std.proofs.Common.{◌≡◌, take}
use Rattle.ultra_serial_law.specs.Legal.{given}
use Rattle.ultra_verdict.proofs.searching.given_value.Given as goal

abbrev pub invariant-loop-address : goal.invariant-loop-address
invariant-loop-address l = l.value ≡ given (take l.address-index l.cells) l.cell
