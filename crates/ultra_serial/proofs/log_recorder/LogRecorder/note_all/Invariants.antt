use Rattle.std.proofs.Common.{take}
use Rattle.ultra_serial_law.specs.Log.{Log}
use Rattle.ultra_serial.specs.LogRecorder.{Records, logged_all}
use Rattle.ultra_serial.proofs.log_recorder.LogRecorder.note_all.Given as goal

abbrev pub invariant-loop-event : goal.invariant-loop-event
invariant-loop-event l = (k : Log) → Records l.initial.self k → Records l.self (logged_all l.cycle (take l.event-index l.events) k)
