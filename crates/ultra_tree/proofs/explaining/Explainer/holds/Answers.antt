use Rattle.std.proofs.Common.{ap, subst, sym, ◌∙◌}
use Rattle.std.specs.Prelude.{not, is_some}
use Rattle.ultra_serial_law.specs.Tree.{tree_of}
use Rattle.ultra_tree.specs.{Absorb.ExplainerState, Slots.{AreSlotsOf, trees_of}}
use Rattle.ultra_tree.proofs.Agreement.{held_if_found, not_some}
use Rattle.ultra_tree.proofs.explaining.Explainer.holds.Goals as goal

pub returns-clause-held : goal.returns-clause-held
returns-clause-held g c =
    let n = c.self.inside.elements in
    let m = c.self.inside.most_open in
    let ks = trees_of c.self.inside.order in
    let are = subst (λ ss. AreSlotsOf n m ss ks) (sym c.as_slice.ensures.value) c.self.invariant.2 in
    let found = c.is_some.ensures ∙ (held_if_found n m c.args.pe c.args.cell c.as_slice.result.now ks c.place_of.result are c.place_of.ensures.found c.place_of.ensures.none ∙ ap (λ (v : ExplainerState). is_some (tree_of c.args.pe c.args.cell v.trees)) c.self.view_is) in
    (λ x. sym found ∙ x, λ x. found ∙ x)

pub returns-clause-free : goal.returns-clause-free
returns-clause-free g c =
    let n = c.self.inside.elements in
    let m = c.self.inside.most_open in
    let ks = trees_of c.self.inside.order in
    let are = subst (λ ss. AreSlotsOf n m ss ks) (sym c.as_slice.ensures.value) c.self.invariant.2 in
    let found = c.is_some.ensures ∙ (held_if_found n m c.args.pe c.args.cell c.as_slice.result.now ks c.place_of.result are c.place_of.ensures.found c.place_of.ensures.none ∙ ap (λ (v : ExplainerState). is_some (tree_of c.args.pe c.args.cell v.trees)) c.self.view_is) in
    let free = not_some (tree_of c.args.pe c.args.cell c.args.self.now.trees) in
    (λ x. free.0 (ap not (sym found) ∙ x), λ x. ap not found ∙ free.1 x)
