use Rattle.std.proofs.Common.{◌+◌, ◌^◌, arith, sym, ◌∙◌}
use Rattle.ultra_topology.specs.Numbers.{module_number}
use Rattle.ultra_trace_text.proofs.{Empty.no_inp_line_of, Walked.{next_within, walked}, Yielded.{none_written, one_more}}
use Rattle.ultra_trace_text.proofs.state.put_requests_to_serve.Goals as goal

pub memory_module-requires : goal.memory_module-requires
memory_module-requires g c =
    let d = c.args.blocks.now.config.stages in
    record { number = next_within c.args.holders.now (module_number d 0) (2 ^ d) (rw c.requires.net at c.loop-number.invariant) (rw c.in-Some.is at c.next.ensures.steps) }

pub loop-number-preserved : goal.loop-number-preserved
loop-number-preserved g c = one_more c.loop-number.invariant (rw c.in-Some.is at c.next.ensures.steps) (rw c.memory_module.ensures.state at c.put_inp.ensures)

pub returns : goal.returns
returns g c =
    let d = c.args.blocks.now.config.stages in
    let none = rw c.in-None.is at c.next.ensures.steps in
    walked c.args.holders.now (module_number d 0) (2 ^ d) (rw c.requires.net at c.loop-number.invariant) none.0
    (λ k within outside. no_inp_line_of d c.args.blocks.now.machine k (omega arith) (sym (c.requires.holders (module_number d 0 + k)) ∙ outside))

pub loop-number-init : goal.loop-number-init
loop-number-init g c = none_written _ (rw c.into_iter-number-iterator.ensures.into_iter_gives c.modules_in-number-items.ensures)
