use Rattle.std.proofs.Common.{◌≡◌, ◌-◌}
use Rattle.ultra_msg.specs.Bytes.{IsPrefix}
use Rattle.ultra_io.specs.TextBuffer.{Writes}
use Rattle.ultra_serial.specs.OrderedRunState.{list_so_far, whole_list}
use Rattle.ultra_commands.specs.Order.{order_text}
use Rattle.ultra_commands.proofs.serial_order.put_order.Given as goal

abbrev pub invariant-loop-run : goal.invariant-loop-run
invariant-loop-run g l = record {
  same : whole_list l.run ≡ whole_list l.initial.run;
  prefix : IsPrefix (list_so_far l.run) (whole_list l.initial.run);
  written : Writes g.O.Sink.taken g.O.Sink.failures (order_text (list_so_far l.run)) l.initial.buffer l.buffer;
}

abbrev pub decreases-loop-run : goal.decreases-loop-run
decreases-loop-run g l = l.run.limit - l.run.cycles
