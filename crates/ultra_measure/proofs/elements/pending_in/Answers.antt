use Rattle.std.proofs.Common.{◌+◌, ◌^◌, ◌∙◌, length, length-append, refl, sym, ap, arith}
use Rattle.ultra_topology.specs.{Numbers.element_number, Set.has_unit}
use Rattle.ultra_holders.specs.Holders.{holders_left, numbers_in}
use Rattle.ultra_holders.proofs.Skipped.{few_pass}
use Rattle.ultra_measure.specs.Held.{pending}
use Rattle.ultra_measure.proofs.{Gathered.{added, topmost}, InterfaceSums.{pending_sum, pending_most}}
use Rattle.ultra_measure.proofs.Counted.{none_counted, one_more, sum_of_all, most_of_all, next_within, next_fits}
use Rattle.ultra_measure.proofs.elements.pending_in.Goals as goal

pub loop-pe-init : goal.loop-pe-init
loop-pe-init g c = none_counted (ap holders_left c.into_iter-pe-iterator.ensures.into_iter_gives ∙ c.elements_in-pe-items.ensures)

pub pending_of-here-requires-clause-pe : goal.pending_of-here-requires-clause-pe
pending_of-here-requires-clause-pe g c =
    let d = c.args.net in
    let small = next_within c.args.holders.now (element_number d 0) (2 ^ d) c.loop-pe.invariant (rw c.in-Some.is at c.next.ensures.steps) in
    rw (← c.requires.net.is) small

pub overflow_add-sum : goal.overflow_add-sum
overflow_add-sum g c =
    let d = c.args.net in
    let fits = next_fits c.args.holders.now (element_number d 0) (2 ^ d) c.loop-pe.invariant (rw c.in-Some.is at c.next.ensures.steps) in
    omega (arith, fits.0, c.size-most.ensures.value, c.size-most.ensures.small, c.pending_of-here.ensures.few)

pub loop-pe-preserved : goal.loop-pe-preserved
loop-pe-preserved g c =
    let here = c.pending_of-here.ensures in
    one_more c.loop-pe.invariant _ _ _ (rw c.in-Some.is at c.next.ensures.steps) (ap (λ y. c.loop-pe.sum + y) here.value) (rw here.value at c.max-most.ensures) refl (omega (arith, here.value, here.few)) (omega arith)

pub returns : goal.returns
returns g c =
    let d = c.args.net in
    let b = c.args.blocks.now in
    let units = c.args.holders.now in
    let none = rw c.in-None.is at c.next.ensures.steps in
    let few = few_pass (λ k. has_unit units (element_number d 0 + k)) 0 (2 ^ d) in
    let parts = sym (length-append c.loop-pe.yielded (holders_left c.loop-pe.pe-iterator)) ∙ ap length c.loop-pe.invariant.parts in
    record {
      sum = sum_of_all c.loop-pe.invariant none.0 ∙ ap (λ n. added (pending b.machine) (numbers_in units (element_number n 0) (2 ^ n))) c.requires.net.is ∙ pending_sum b.config.stages b.machine units c.requires.holders;
      most = most_of_all c.loop-pe.invariant none.0 ∙ ap (λ n. topmost (pending b.machine) (numbers_in units (element_number n 0) (2 ^ n))) c.requires.net.is ∙ pending_most b.config.stages b.machine units c.requires.holders;
      few = omega (arith, few, parts, c.loop-pe.invariant.few, c.size-most.ensures.value, c.size-most.ensures.small);
    }
