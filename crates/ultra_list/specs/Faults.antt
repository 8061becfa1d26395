-- why a text isn't read, and what is read; this project's profile
use Rattle.std.specs.Prelude.{◌≡◌, ℕ, List, Result, Ok, Err}
use Rattle.std.specs.Global.{Vec}
use Rattle.ultra_serial_law.specs.declared.records.Entry.{Entry}
use Rattle.ultra_list.specs.{declared.ListFault.{ListFault, TheVariants.{NoMemory, NotAnEntry}}, SerialText.IsFirstBadLine}

abbrev pub ExplainsListFault : List ℕ → ListFault → Type 0
ExplainsListFault text NoMemory = Unit {0}
ExplainsListFault text (NotAnEntry line) = IsFirstBadLine text line

-- the result is the list, unless memory was refused
abbrev pub IsReadAs : List Entry → Result (Vec Entry) ListFault → Type 0
IsReadAs es (Ok list) = list.items ≡ es
IsReadAs es (Err fault) = fault ≡ NoMemory
