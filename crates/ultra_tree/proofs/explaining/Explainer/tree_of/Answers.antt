use Rattle.std.proofs.Common.{◌≡◌, ap, subst, sym, ◌∙◌, arith, Some}
use Rattle.std.proofs.lemmas.Option.{slice_get_within, get_or_from_slice_get}
use Rattle.ultra_serial_law.specs.Tree.{tree_of}
use Rattle.ultra_tree.specs.{Absorb.ExplainerState, Seen.seen, Slots.{AreSlotsOf, IsFirstFor, trees_of}, declared.slots.Slot.TheVariants.Held}
use Rattle.ultra_tree.proofs.Agreement.{tree_found, tree_missed}
use Rattle.ultra_tree.proofs.explaining.Explainer.tree_of.Goals as goal

pub returns-in_err-place : goal.returns-in_err-place
returns-in_err-place g c =
    let n = c.self.inside.elements in
    let m = c.self.inside.most_open in
    let ks = trees_of c.self.inside.order in
    let are = subst (λ ss. AreSlotsOf n m ss ks) (sym c.as_slice.ensures.value) c.self.invariant.2 in
    let none = tree_missed n m c.args.pe c.args.cell c.as_slice.result.now ks are c.in_err-place.ensures.none in
    rw c.from_residual.ensures (sym none ∙ ap (λ (v : ExplainerState). tree_of c.args.pe c.args.cell v.trees) c.self.view_is)

pub index-requires : goal.index-requires
index-requires g c =
    let at = subst (λ us. IsFirstFor c.self.inside.most_open c.args.pe c.args.cell us c.in_ok-place.place) c.as_slice.ensures.value c.in_ok-place.ensures.found in
    let within = slice_get_within c.self.inside.slots.items c.in_ok-place.place (Held c.args.cell at.tree) at.at in
    omega (arith, within, c.self.inside.slots.ok.0)

pub returns-in-Free : goal.returns-in-Free
returns-in-Free g c =
    let at = subst (λ us. IsFirstFor c.self.inside.most_open c.args.pe c.args.cell us c.in_ok-place.place) c.as_slice.ensures.value c.in_ok-place.ensures.found in
    let held = get_or_from_slice_get c.self.inside.slots.items c.in_ok-place.place (Held c.args.cell at.tree) c.index.result.now at.at in
    let free = sym c.in-Free.is ∙ (c.index.ensures ∙ held) in
    absurd cc

pub returns-in-Held : goal.returns-in-Held
returns-in-Held g c =
    let n = c.self.inside.elements in
    let m = c.self.inside.most_open in
    let ss = c.self.inside.slots.items in
    let ks = trees_of c.self.inside.order in
    let at = subst (λ us. IsFirstFor m c.args.pe c.args.cell us c.in_ok-place.place) c.as_slice.ensures.value c.in_ok-place.ensures.found in
    let held = get_or_from_slice_get ss c.in_ok-place.place (Held c.args.cell at.tree) c.index.result.now at.at in
    let is = sym c.in-Held.is ∙ (c.index.ensures ∙ held) in
    let same : c.in-Held.tree ≡ at.tree = cc is in
    ap (λ t. Some (seen c.args.cell t)) same
    ∙ (sym (tree_found n m c.args.pe c.args.cell ss ks c.in_ok-place.place c.self.invariant.2 at)
    ∙ ap (λ (v : ExplainerState). tree_of c.args.pe c.args.cell v.trees) c.self.view_is)
