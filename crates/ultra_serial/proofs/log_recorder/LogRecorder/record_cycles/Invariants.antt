use Rattle.std.proofs.Common.{◌≡◌}
use Rattle.ultra_serial_law.specs.SerialList.{history}
use Rattle.ultra_serial.specs.LogRecorder.{Records}
use Rattle.ultra_serial.proofs.Cycles.{running_after}
use Rattle.ultra_serial.proofs.log_recorder.LogRecorder.record_cycles.Given as goal

abbrev pub invariant-loop-cycle : goal.invariant-loop-cycle
invariant-loop-cycle l = let v = l.initial.machine.settings in
    let p = l.initial.machine.program in
    record {
      machine : l.machine ≡ running_after v p l.cycle;
      recording : Records l.self (history v p l.cycle).log;
    }
