use Rattle.std.proofs.lemmas.{Grind.common_steps, Option.slice_get_within}
use Rattle.std.proofs.Common.{◌≡◌, ◌∷◌, length, set, ap, subst, sym, ◌∙◌, arith}
use Rattle.ultra_serial_law.specs.{Tree.{kept, tree_of}, Explicable.held_by}
use Rattle.ultra_tree.specs.{Absorb.{ExplainerState, AreWithin}, Seen.seen, Slots.{AreSlotsOf, IsFreePlace, trees_of}, declared.slots.Slot.TheVariants.{Free, Held}}
use Rattle.ultra_tree.proofs.{Counted.within_more, Rows.row_within, Agreement.slots_put}
use Rattle.ultra_tree.proofs.explaining.Explainer.put.Goals as goal

pub free_place-place-requires-clause-within : goal.free_place-place-requires-clause-within
free_place-place-requires-clause-within g c =
    let n = ap (λ (v : ExplainerState). v.elements) c.self.view_is in
    let within = row_within c.self.inside.elements c.self.inside.most_open c.args.pe (omega (arith, n, c.requires.element)) in
    let all = ap (λ ss. length ss) c.as_slice.ensures.value in
    omega (arith, within, all, c.self.invariant.2.size)

pub index_mut-requires : goal.index_mut-requires
index_mut-requires g c =
    let at = subst (λ us. IsFreePlace c.self.inside.most_open c.args.pe us c.free_place-place.result) c.as_slice.ensures.value c.free_place-place.ensures in
    let within = slice_get_within c.self.inside.slots.items c.free_place-place.result Free at.at in
    omega (arith, within, c.self.inside.slots.ok.0)

pub invariant_of-self : goal.invariant_of-self
invariant_of-self g c =
    let p = c.args.pe in
    let a = c.args.cell in
    let n = c.self.inside.elements in
    let m = c.self.inside.most_open in
    let ss = c.self.inside.slots.items in
    let ks = trees_of c.self.inside.order in
    let i = c.free_place-place.result in
    let of_pes = ap (λ (v : ExplainerState). v.elements) c.self.view_is in
    let most = ap (λ (v : ExplainerState). v.most_open) c.self.view_is in
    let held = ap (λ (v : ExplainerState). held_by p v.trees) c.self.view_is in
    let none = ap (λ (v : ExplainerState). tree_of p a v.trees) c.self.view_is ∙ c.requires.free in
    let at = subst (λ us. IsFreePlace m p us i) c.as_slice.ensures.value c.free_place-place.ensures in
    let trees : (kept c.of-2.result.value c.of-3.result.value (seen c.of-3.result.value c.of-4.result.value) ∷ trees_of c.of.result.value) ≡ (kept p a (seen a c.args.tree) ∷ ks) = cc in
    let within = within_more n m p a (seen a c.args.tree) ks c.self.invariant.1 (omega (arith, of_pes, c.requires.element)) (omega (arith, most, held, c.requires.room)) in (
      c.self.invariant.0,
      subst (λ us. AreWithin n m us) (sym trees) within,
      subst (λ us. AreSlotsOf n m (set ss i (Held a c.args.tree)) us) (sym trees) (slots_put n m p a ss ks i c.self.invariant.2 at none c.args.tree),
    )

pub returns : goal.returns
returns g c = grind (arith, common_steps)
