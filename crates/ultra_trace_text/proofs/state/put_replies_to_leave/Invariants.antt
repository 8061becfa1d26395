use Rattle.std.proofs.Common.{◌^◌}
use Rattle.ultra_topology.specs.Numbers.{module_number}
use Rattle.ultra_model.specs.Trace.{out_lines}
use Rattle.ultra_holders.specs.Holders.{holders_left, numbers_in}
use Rattle.ultra_trace_text.proofs.Yielded.{AreWritten}
use Rattle.ultra_trace_text.proofs.state.put_replies_to_leave.Given as goal

abbrev pub invariant-loop-number : goal.invariant-loop-number
invariant-loop-number g l =
    let all = numbers_in l.holders (module_number l.fn.net 0) (2 ^ l.fn.net) in
    AreWritten g.S.Sink.taken g.S.Sink.failures (out_lines l.blocks.machine) all l.yielded (holders_left l.number-iterator) l.initial.buffer l.buffer
