use Rattle.std.proofs.Common.{◌+◌, ◌^◌, ◌++◌, [], ◌∷◌, length, length-append, append-nil, append_assoc, refl, sym, ap, ◌∙◌, arith}
use Rattle.ultra_topology.specs.{Numbers.module_number, Set.has_unit}
use Rattle.ultra_holders.specs.Holders.{holders_left}
use Rattle.ultra_holders.proofs.Skipped.{few_pass}
use Rattle.ultra_measure.proofs.registers.count_modules.Goals as goal

pub loop-unit-init : goal.loop-unit-init
loop-unit-init g c = (refl, ap holders_left c.into_iter-unit-iterator.ensures.into_iter_gives ∙ c.modules_in-unit-items.ensures)

pub overflow_add-count : goal.overflow_add-count
overflow_add-count g c =
    let few = few_pass (λ k. has_unit c.args.units.now (module_number c.args.net 0 + k)) 0 (2 ^ c.args.net) in
    let parts = sym (length-append c.loop-unit.yielded (holders_left c.loop-unit._unit-iterator)) ∙ ap length c.loop-unit.invariant.1 in
    omega (arith, few, parts, c.loop-unit.invariant.0, c.size-most.ensures.value, c.size-most.ensures.small)

pub loop-unit-preserved : goal.loop-unit-preserved
loop-unit-preserved g c =
    let came = c.loop-unit.yielded in
    let next = rw c.in-Some.is at c.next.ensures.steps in
    let x = c.in-Some._unit in (
      omega (arith, length-append came (x ∷ []), c.loop-unit.invariant.0),
      append_assoc came (x ∷ []) _ ∙ ap (λ xs. came ++ xs) (sym next) ∙ c.loop-unit.invariant.1,
    )

pub returns : goal.returns
returns g c =
    let came = c.loop-unit.yielded in
    let none = rw c.in-None.is at c.next.ensures.steps in
    let few = few_pass (λ k. has_unit c.args.units.now (module_number c.args.net 0 + k)) 0 (2 ^ c.args.net) in
    let all = c.loop-unit.invariant.0 ∙ ap length (sym (append-nil came) ∙ ap (λ xs. came ++ xs) (sym none.0) ∙ c.loop-unit.invariant.1) in
    record {
      value = all;
      few = omega (arith, few, all, c.size-most.ensures.value, c.size-most.ensures.small);
    }
