use Rattle.std.proofs.Common.{◌-◌, ◌^◌}
use Rattle.ultra_topology.specs.Numbers.{switch_count}
use Rattle.ultra_holders.specs.Holders.{holders_left, numbers_in}
use Rattle.ultra_trace_text.specs.Ports.{port_line}
use Rattle.ultra_trace_text.proofs.{Rows.lines_at, Yielded.AreWritten}
use Rattle.ultra_trace_text.proofs.state.put_switches.Given as goal

abbrev pub invariant-loop-switch : goal.invariant-loop-switch
invariant-loop-switch g l =
    let line = lines_at (2 ^ (l.fn.net - 1)) (port_line l.held l.blocks.machine) in
    AreWritten g.S.Sink.taken g.S.Sink.failures line (numbers_in l.holders 0 (switch_count l.fn.net)) l.yielded (holders_left l.switch-iterator) l.initial.buffer l.buffer
