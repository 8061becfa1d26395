use Rattle.std.proofs.lemmas.Grind.{common_steps}
use Rattle.std.proofs.Common.{◌*◌, ◌<◌, length, sym, ◌∙◌, arith}
use Rattle.ultra_tree.proofs.{Rows.{one_more, none_more}, slots.count_of.Goals.{then-not-is_free, else-not-is_free}}
use Rattle.ultra_tree.proofs.slots.count_of.Goals as goal

pub loop-place-preserved : goal.loop-place-preserved
loop-place-preserved g c =
    let p = c.args.pe in
    let ss = c.args.slots.now in
    let f = p * c.args.most_open in
    let i = c.loop-place.place in
    let s = c.index-slots-place.result in
    let from = c.loop-place.auto.place in
    let within : i < length ss = omega (arith, c.requires.within, c.loop-place-test.true) in
    let counted = c.loop-place.invariant.counted in
    let few = c.loop-place.invariant.few in
    elim c.if-not-is_free.branch [
      | then-not-is_free w ↦
          let more = one_more p ss i s within c.index-slots-place.is f from (sym c.is_free.ensures ∙ w.if-not-is_free.true) in
          record { counted = omega (arith, more, counted, w.count-is); few = omega (arith, few, from, w.count-is) }
      | else-not-is_free w ↦
          let same = none_more p ss i s within c.index-slots-place.is f from (sym c.is_free.ensures ∙ w.if-not-is_free.false) in
          record { counted = omega (arith, same, counted, w.count-is); few = omega (arith, few, from, w.count-is) }
    ]

pub loop-place-init : goal.loop-place-init
loop-place-init g c = grind (arith, common_steps)

pub returns : goal.returns
returns g c = grind (arith, common_steps)
