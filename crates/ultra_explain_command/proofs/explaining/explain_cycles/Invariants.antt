use Rattle.std.proofs.Common.{◌≡◌, false}
use Rattle.ultra_msg.specs.Bytes.{AreTakenOrWait}
use Rattle.ultra_model.specs.Machine.{size}
use Rattle.ultra_serial_law.specs.SerialList.{history}
use Rattle.ultra_serial.proofs.Cycles.{running_after}
use Rattle.ultra_explain_command.specs.Explanation.{lines_of_first}
use Rattle.ultra_explain_command.proofs.explaining.explain_cycles.Given as goal

abbrev pub invariant-loop-cycle : goal.invariant-loop-cycle
invariant-loop-cycle g l = let v = l.initial.machine.settings in
    let p = l.initial.machine.program in
    record {
      machine : l.machine ≡ running_after v p l.cycle;
      explainer : l.explainer ≡ record { elements = size v; most_open = v.most_open; is_spent = false; trees = (history v p l.cycle).trees };
      written : AreTakenOrWait (lines_of_first v p l.cycle) (g.O.Sink.taken l.initial.out) l.initial.lines.bytes.items (g.O.Sink.taken l.out) l.lines.bytes.items;
      still : g.O.Sink.failures l.out ≡ g.O.Sink.failures l.initial.out;
    }
