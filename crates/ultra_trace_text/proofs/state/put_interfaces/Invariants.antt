use Rattle.std.proofs.Common.{◌^◌}
use Rattle.ultra_topology.specs.Numbers.{element_number}
use Rattle.ultra_model.specs.Trace.{pni_lines}
use Rattle.ultra_holders.specs.Holders.{holders_left, numbers_in}
use Rattle.ultra_trace_text.proofs.Yielded.{AreWritten}
use Rattle.ultra_trace_text.proofs.state.put_interfaces.Given as goal

abbrev pub invariant-loop-pe : goal.invariant-loop-pe
invariant-loop-pe g l =
    let all = numbers_in l.holders (element_number l.fn.net 0) (2 ^ l.fn.net) in
    AreWritten g.S.Sink.taken g.S.Sink.failures (pni_lines l.blocks.machine) all l.yielded (holders_left l.pe-iterator) l.initial.buffer l.buffer
