use Rattle.std.proofs.Common.{ℕ, List, take}
use Rattle.ultra_serial_law.specs.{declared.records.Entry.Entry, SerialList.{History, noted}}
use Rattle.ultra_serial.specs.Following.{Follows}
use Rattle.ultra_serial.proofs.serial_state.SerialState.note_all.Given as goal

abbrev pub invariant-loop-event : goal.invariant-loop-event
invariant-loop-event l = (n : ℕ) (initial : List (ℕ × ℕ)) (listed : List Entry) (h : History) → Follows initial listed l.initial.self h → Follows initial listed l.self (noted n (take l.event-index l.events) h)
