use Rattle.std.proofs.lemmas.Grind.{common_steps}
use Rattle.std.proofs.Common.{◌≡◌, ℕ, suc, ◌+◌, ◌*◌, ◌-◌, ◌<◌, length, subst, sym, ◌∙◌, arith}
use Rattle.ultra_serial_law.specs.Explicable.{held_by}
use Rattle.ultra_tree.specs.Slots.{trees_in_slots}
use Rattle.ultra_tree.proofs.Rows.{room_left, row_fits, free_at}
use Rattle.ultra_tree.proofs.slots.free_place.Goals as goal

pub loop-place-preserved : goal.loop-place-preserved
loop-place-preserved g c =
    let p = c.args.pe in
    let ss = c.args.slots.now in
    let i = c.loop-place.place in
    let end = p * c.args.most_open + c.args.most_open in
    let left : end - i ≡ suc (end - (i + 1)) = omega (arith, c.loop-place-test.true) in
    let room = subst (λ (k : ℕ). held_by p (trees_in_slots p ss i k) < k) left c.loop-place.invariant in
    room_left p ss i c.index-slots-place.result (omega (arith, c.requires.within, c.loop-place-test.true)) c.index-slots-place.is (end - (i + 1)) (sym c.is_free.ensures ∙ c.if-is_free.false) room

pub loop-place-init : goal.loop-place-init
loop-place-init g c = grind (arith, common_steps)

pub overflow_mul-first : goal.overflow_mul-first
overflow_mul-first g c =
    omega (arith, row_fits c.args.pe c.args.most_open c.ranges.pe.fits c.ranges.most_open.fits)

pub overflow_add-place-end : goal.overflow_add-place-end
overflow_add-place-end g c =
    omega (arith, row_fits c.args.pe c.args.most_open c.ranges.pe.fits c.ranges.most_open.fits)

pub offset_bounds-slots-place : goal.offset_bounds-slots-place
offset_bounds-slots-place g c = omega (arith, c.requires.within, c.loop-place-test.true)

pub bounds-slots-place : goal.bounds-slots-place
bounds-slots-place g c = omega (arith, c.requires.within, c.loop-place-test.true)

pub loop-place-smaller : goal.loop-place-smaller
loop-place-smaller g c = omega (arith, c.loop-place-test.true)

pub returns-then-is_free : goal.returns-then-is_free
returns-then-is_free g c =
    let within : c.loop-place.place < length c.args.slots.now = omega (arith, c.requires.within, c.loop-place-test.true) in
    record {
      at = free_at c.args.slots.now c.loop-place.place c.index-slots-place.result within c.index-slots-place.is (sym c.is_free.ensures ∙ c.if-is_free.true);
      from = c.loop-place.auto.place;
      to = c.loop-place-test.true;
    }

pub unreachable-requires : goal.unreachable-requires
unreachable-requires g c = omega (arith, c.loop-place.invariant, c.loop-place-test.false)
