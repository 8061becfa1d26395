use Rattle.std.proofs.Common.{◌+◌, ◌^◌, arith, ap, sym, ◌∙◌}
use Rattle.ultra_model.specs.Machine.{Element}
use Rattle.ultra_topology.specs.Numbers.{element_number}
use Rattle.ultra_trace_text.proofs.{Empty.no_pni_line_of, Walked.{next_within, walked}, Yielded.{none_written, one_more}}
use Rattle.ultra_trace_text.proofs.state.put_interfaces.Goals as goal

pub element-requires : goal.element-requires
element-requires g c =
    let d = c.args.blocks.now.config.stages in
    record { pe = next_within c.args.holders.now (element_number d 0) (2 ^ d) (rw c.requires.net at c.loop-pe.invariant) (rw c.in-Some.is at c.next.ensures.steps) }

pub loop-pe-preserved : goal.loop-pe-preserved
loop-pe-preserved g c = one_more c.loop-pe.invariant (rw c.in-Some.is at c.next.ensures.steps) (rw (ap (λ (e : Element). e.interface) c.element.ensures.state) at c.put_pni.ensures)

pub returns : goal.returns
returns g c =
    let d = c.args.blocks.now.config.stages in
    let none = rw c.in-None.is at c.next.ensures.steps in
    walked c.args.holders.now (element_number d 0) (2 ^ d) (rw c.requires.net at c.loop-pe.invariant) none.0
    (λ k within outside. no_pni_line_of d c.args.blocks.now.machine k (omega arith) (sym (c.requires.holders (element_number d 0 + k)) ∙ outside))

pub loop-pe-init : goal.loop-pe-init
loop-pe-init g c = none_written _ (rw c.into_iter-pe-iterator.ensures.into_iter_gives c.elements_in-pe-items.ensures)
