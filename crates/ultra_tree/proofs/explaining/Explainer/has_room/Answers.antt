use Rattle.std.proofs.{lemmas.Grind.common_steps, Common.{length, ap, arith}}
use Rattle.ultra_tree.specs.Absorb.{ExplainerState}
use Rattle.ultra_tree.proofs.Rows.{row_within}
use Rattle.ultra_tree.proofs.explaining.Explainer.has_room.Goals as goal

pub count_of-requires : goal.count_of-requires
count_of-requires g c =
    let n = ap (λ (v : ExplainerState). v.elements) c.self.view_is in
    let within = row_within c.self.inside.elements c.self.inside.most_open c.args.pe (omega (arith, n, c.requires)) in
    let all = ap (λ ss. length ss) c.as_slice.ensures.value in
    record { within = omega (arith, within, all, c.self.invariant.2.size) }

pub returns : goal.returns
returns g c = grind (arith, common_steps)
