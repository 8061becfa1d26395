use Rattle.std.proofs.Common.{◌+◌, arith, refl}
use Rattle.ultra_topology.proofs.{Common.{nat_tests, has_unit, comes_to}, Visits.passed_to}
use Rattle.ultra_topology.specs.Visits.{after_units}
use Rattle.ultra_topology.proofs.pass.visit_some.Goals as goal

pub loop-next-init : goal.loop-next-init
unfolding after_units
loop-next-init g c =
    passed_to _ _ _ _ _ c.units.ensures.still (has_unit c.units.result.now) 0 (omega arith) refl (λ k _. c.units.ensures.idle k) (λ k _. c.requires k)
    c.from_word-next.result c.from_word-next.ensures.some c.from_word-next.ensures.none

pub loop-next-preserved : goal.loop-next-preserved
unfolding after_units
loop-next-preserved g c =
    let walk = c.in-Some.walk in
    let passed = rw (c.in-Some.is) at c.loop-next.invariant in
    let made = c.visit.ensures in
    let units = c.units-in-Some in
    passed_to _ _ _ _ _ units.ensures.still (comes_to walk units.result.now) (walk.unit + 1) (omega (arith, passed.walk.small))
    (grind (arith, passed.visited, made.visited))
    (grind (arith, nat_tests, units.ensures.idle, passed.idle, made.idle))
    (grind (arith, passed.can, made.later))
    c.go_on-next.result c.go_on-next.ensures.some c.go_on-next.ensures.none
