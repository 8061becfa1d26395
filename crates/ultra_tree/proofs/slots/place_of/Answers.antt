use Rattle.std.proofs.lemmas.Grind.{common_steps}
use Rattle.std.proofs.Common.{◌*◌, ◌≤◌, length, ap, sym, ◌∙◌, arith}
use Rattle.ultra_tree.specs.Slots.{trees_under}
use Rattle.ultra_tree.proofs.Rows.{slots_past, row_past, row_within, row_fits, first_for, still_none}
use Rattle.ultra_tree.proofs.slots.place_of.Goals as goal

pub returns-then-pe-elements-clause-none : goal.returns-then-pe-elements-clause-none
returns-then-pe-elements-clause-none g c =
    let p = c.args.pe in
    let m = c.args.most_open in
    let past : length c.args.slots.now ≤ p * m = omega (arith, c.requires, row_past c.args.elements m p c.if-pe-elements.true) in
    ap (λ us. trees_under p c.args.cell us) (slots_past p c.args.slots.now (p * m) m past)

pub returns-then-is_for-clause-found : goal.returns-then-is_for-clause-found
returns-then-is_for-clause-found g c =
    let within = row_within c.args.elements c.args.most_open c.args.pe c.if-pe-elements.false in
    first_for c.args.pe c.args.cell c.args.most_open c.args.slots.now c.loop-place.place c.index-slots-place.result (omega (arith, within, c.requires, c.loop-place-test.true)) c.index-slots-place.is (sym c.is_for.ensures ∙ c.if-is_for.true) c.loop-place.auto.place c.loop-place-test.true c.loop-place.invariant

pub loop-place-preserved : goal.loop-place-preserved
loop-place-preserved g c =
    let within = row_within c.args.elements c.args.most_open c.args.pe c.if-pe-elements.false in
    still_none c.args.pe c.args.cell c.args.slots.now (c.args.pe * c.args.most_open) c.loop-place.place c.index-slots-place.result c.loop-place.auto.place (omega (arith, within, c.requires, c.loop-place-test.true)) c.index-slots-place.is (sym c.is_for.ensures ∙ c.if-is_for.false) c.loop-place.invariant

pub returns-then-pe-elements-clause-found : goal.returns-then-pe-elements-clause-found
returns-then-pe-elements-clause-found g c = grind (arith, common_steps)

pub loop-place-init : goal.loop-place-init
loop-place-init g c = grind (arith, common_steps)

pub returns-then-is_for-clause-none : goal.returns-then-is_for-clause-none
returns-then-is_for-clause-none g c = grind (arith, common_steps)

pub returns-clause-found : goal.returns-clause-found
returns-clause-found g c = grind (arith, common_steps)

pub returns-clause-none : goal.returns-clause-none
returns-clause-none g c = grind (arith, common_steps)

pub overflow_mul-first : goal.overflow_mul-first
overflow_mul-first g c =
    omega (arith, row_fits c.args.pe c.args.most_open c.ranges.pe.fits c.ranges.most_open.fits)

pub overflow_add-place-end : goal.overflow_add-place-end
overflow_add-place-end g c =
    omega (arith, row_fits c.args.pe c.args.most_open c.ranges.pe.fits c.ranges.most_open.fits)

pub offset_bounds-slots-place : goal.offset_bounds-slots-place
offset_bounds-slots-place g c =
    let within = row_within c.args.elements c.args.most_open c.args.pe c.if-pe-elements.false in
    omega (arith, within, c.requires, c.loop-place-test.true)

pub bounds-slots-place : goal.bounds-slots-place
bounds-slots-place g c =
    let within = row_within c.args.elements c.args.most_open c.args.pe c.if-pe-elements.false in
    omega (arith, within, c.requires, c.loop-place-test.true)

pub loop-place-smaller : goal.loop-place-smaller
loop-place-smaller g c = omega (arith, c.loop-place-test.true)
