use Rattle.std.proofs.Common.{◌≡◌, ◌<◌, ℕ, Some}
use Rattle.std.specs.Prelude.{slice_get}
use Rattle.ultra_serial.specs.{RecordsByName.entries_named, Examined.IsListed}
use Rattle.ultra_serial_law.specs.declared.records.LoggedAnswer.{LoggedAnswer}
use Rattle.ultra_serial.proofs.checking.first_missing.Given as goal

abbrev pub invariant-loop-index : goal.invariant-loop-index
invariant-loop-index l = (k : ℕ) (a : LoggedAnswer) → k < l.index → slice_get l.answers k ≡ Some a → IsListed (entries_named l.names a.pe a.number) a
