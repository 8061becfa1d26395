use Rattle.std.proofs.lemmas.Grind.{common_steps}
use Rattle.std.proofs.Common.{◌+◌, ◌-◌, ◌^◌, arith, sym, ◌∙◌}
use Rattle.ultra_io.proofs.Writing.{◌then◌}
use Rattle.ultra_topology.specs.Numbers.{switch_count}
use Rattle.ultra_trace_text.specs.Ports.{port_line}
use Rattle.ultra_trace_text.proofs.{Empty.no_port_lines, Rows.{by_rows, lines_at}, Walked.{next_within, walked}, Yielded.{none_written, one_more}}
use Rattle.ultra_trace_text.proofs.state.put_switches.Goals as goal

pub place_of-stage-requires : goal.place_of-stage-requires
place_of-stage-requires g c =
    next_within c.args.holders.now 0 (switch_count c.args.net) c.loop-switch.invariant (rw c.in-Some.is at c.next.ensures.steps)

pub loop-switch-preserved : goal.loop-switch-preserved
loop-switch-preserved g c =
    let place = c.place_of-stage.ensures in
    let one = rw (place.stage, place.first) at c.put_port.ensures in
    let two = rw (place.stage, place.first) at c.put_port-in-loop-switch.ensures in
    one_more c.loop-switch.invariant (rw c.in-Some.is at c.next.ensures.steps) (one then two)

pub returns : goal.returns
returns g c =
    let m = c.args.blocks.now.machine in
    let d = c.args.net in
    let holders = rw (← c.requires.net) at c.requires.holders in
    let none = rw c.in-None.is at c.next.ensures.steps in
    let all = walked c.args.holders.now 0 (switch_count d) {line = lines_at (2 ^ (d - 1)) (port_line c.args.held m)} c.loop-switch.invariant none.0
    (λ n within outside. no_port_lines d m n within c.args.held (sym (holders (0 + n)) ∙ outside)) in
    let rows = rw (by_rows (port_line c.args.held m) (2 ^ (d - 1)) d (2 ^ d) (omega arith)) at all in
    rw c.requires.net at rows

pub loop-switch-init : goal.loop-switch-init
loop-switch-init g c = none_written _ (rw c.into_iter-switch-iterator.ensures.into_iter_gives c.switches_in-switch-items.ensures)

pub switches_in-switch-items-requires : goal.switches_in-switch-items-requires
switches_in-switch-items-requires g c = grind (arith, common_steps)

pub loop-switch-init-derived : goal.loop-switch-init-derived
loop-switch-init-derived g c = grind (arith, common_steps)

pub next-requires : goal.next-requires
next-requires g c = grind (arith, common_steps)

pub put_port-requires-clause-stage : goal.put_port-requires-clause-stage
put_port-requires-clause-stage g c = grind (arith, common_steps)

pub put_port-requires-clause-position : goal.put_port-requires-clause-position
put_port-requires-clause-position g c = grind (arith, common_steps)

pub overflow_add-first : goal.overflow_add-first
overflow_add-first g c = grind (arith, common_steps)

pub put_port-requires-in-loop-switch-clause-stage : goal.put_port-requires-in-loop-switch-clause-stage
put_port-requires-in-loop-switch-clause-stage g c = grind (arith, common_steps)

pub put_port-requires-in-loop-switch-clause-position : goal.put_port-requires-in-loop-switch-clause-position
put_port-requires-in-loop-switch-clause-position g c = grind (arith, common_steps)
