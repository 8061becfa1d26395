use Rattle.std.proofs.Common.{arith}
use Rattle.ultra_topology.proofs.{Set.fewer_behind, Visits.{all_visited, begun, first_is, stepped}}
use Rattle.ultra_topology.proofs.pass.visit_first_word.Goals as goal

pub loop-units-init : goal.loop-units-init
loop-units-init g c =
    let idle = rw (← c.units-2.view_is) at c.units.ensures.idle in
    (0, omega arith, begun _ _ _ _ c.units-2.inside.words (omega arith) c.requires.can c.units.ensures.still idle c.requires.others)

pub visit-requires : goal.visit-requires
visit-requires g c =
    let so_far = c.loop-units.invariant.2 in
    let at = first_is _ _ _ _ _ _ _ so_far (grind arith) (omega arith) in
    record { can = rw (c.of.ensures) (so_far.can _ at.0 (omega arith)) }

pub loop-units-smaller : goal.loop-units-smaller
loop-units-smaller g c = fewer_behind _ (grind arith) (omega arith)

pub loop-units-preserved : goal.loop-units-preserved
loop-units-preserved g c =
    let so_far = c.loop-units.invariant.2 in
    let at = first_is _ _ _ _ _ _ _ so_far (grind arith) (omega arith) in
    let made = rw (c.of.ensures) at c.visit.ensures in
    (_, omega (arith, at.1), stepped _ _ _ _ _ _ _ so_far (grind arith) (omega arith) _ made.visited made.later made.idle made.still)

pub returns : goal.returns
returns g c = all_visited _ _ _ _ _ _ _ c.loop-units.invariant.2 c.loop-units.invariant.1 (grind arith)
