use Rattle.std.proofs.Common.{◌≡◌, set, ap, subst, sym, ◌∙◌, arith, Some}
use Rattle.std.specs.Prelude.{IsSome, is_some}
use Rattle.std.proofs.lemmas.{Bool.false≢true, Option.{slice_get_within, get_or_from_slice_get}}
use Rattle.ultra_serial_law.specs.{Tree.{tree_of, without}, Explicable.held_by}
use Rattle.ultra_tree.specs.{Absorb.{ExplainerState, AreWithin}, Seen.seen, Slots.{AreSlotsOf, IsFirstFor, trees_of}, declared.slots.Slot.TheVariants.Held}
use Rattle.ultra_tree.proofs.{Counted.{within_rest, element_of, one_fewer}, Agreement.{tree_found, tree_missed, slots_taken, none_left}}
use Rattle.ultra_tree.proofs.explaining.Explainer.take.Goals as goal

pub unreachable-requires : goal.unreachable-requires
unreachable-requires g c =
    let n = c.self.inside.elements in
    let m = c.self.inside.most_open in
    let ks = trees_of c.self.inside.order in
    let are = subst (λ ss. AreSlotsOf n m ss ks) (sym c.as_slice.ensures.value) c.self.invariant.2 in
    let none = tree_missed n m c.args.pe c.args.cell c.as_slice.result.now ks are c.in_default.ensures.none in
    let t = ap (λ (v : ExplainerState). tree_of c.args.pe c.args.cell v.trees) c.self.view_is in
    false≢true (ap is_some (sym none ∙ t) ∙ c.requires)

pub index_mut-requires : goal.index_mut-requires
index_mut-requires g c =
    let at = subst (λ us. IsFirstFor c.self.inside.most_open c.args.pe c.args.cell us c.in-Some.place) c.as_slice.ensures.value c.in-Some.ensures.found in
    let within = slice_get_within c.self.inside.slots.items c.in-Some.place (Held c.args.cell at.tree) at.at in
    omega (arith, within, c.self.inside.slots.ok.0)

pub unreachable-requires-in_default-replace : goal.unreachable-requires-in_default-replace
unreachable-requires-in_default-replace g c =
    let at = subst (λ us. IsFirstFor c.self.inside.most_open c.args.pe c.args.cell us c.in-Some.place) c.as_slice.ensures.value c.in-Some.ensures.found in
    let held = get_or_from_slice_get c.self.inside.slots.items c.in-Some.place (Held c.args.cell at.tree) c.index_mut.result.now at.at in
    let free = sym c.in_default-replace.is ∙ (c.replace.ensures.value ∙ (c.index_mut.ensures.value ∙ held)) in
    absurd cc

pub invariant_of-self : goal.invariant_of-self
invariant_of-self g c =
    let p = c.args.pe in
    let a = c.args.cell in
    let n = c.self.inside.elements in
    let m = c.self.inside.most_open in
    let ss = c.self.inside.slots.items in
    let ks = trees_of c.self.inside.order in
    let i = c.in-Some.place in
    let at = subst (λ us. IsFirstFor m p a us i) c.as_slice.ensures.value c.in-Some.ensures.found in
    let trees : without c.of-2.result.value c.of-3.result.value (trees_of c.of.result.value) ≡ without p a ks = cc in
    let slots = slots_taken n m p a ss ks i c.self.invariant.2 at in (
      c.self.invariant.0,
      subst (λ us. AreWithin n m us) (sym trees) (within_rest n m p a ks c.self.invariant.1),
      subst (λ us. AreSlotsOf n m (set ss i c.replace.new.dest) us) (sym trees) (subst (λ s. AreSlotsOf n m (set ss i s) (without p a ks)) (sym c.replace.ensures.after) slots),
    )

pub returns-clause-tree : goal.returns-clause-tree
returns-clause-tree g c =
    let n = c.self.inside.elements in
    let m = c.self.inside.most_open in
    let ss = c.self.inside.slots.items in
    let ks = trees_of c.self.inside.order in
    let at = subst (λ us. IsFirstFor m c.args.pe c.args.cell us c.in-Some.place) c.as_slice.ensures.value c.in-Some.ensures.found in
    let held = get_or_from_slice_get ss c.in-Some.place (Held c.args.cell at.tree) c.index_mut.result.now at.at in
    let is = sym c.in-Held.is ∙ (c.replace.ensures.value ∙ (c.index_mut.ensures.value ∙ held)) in
    let same : c.in-Held.tree ≡ at.tree = cc is in
    ap (λ t. Some (seen c.args.cell t)) same
    ∙ (sym (tree_found n m c.args.pe c.args.cell ss ks c.in-Some.place c.self.invariant.2 at)
    ∙ ap (λ (v : ExplainerState). tree_of c.args.pe c.args.cell v.trees) c.self.view_is)

pub returns-clause-element : goal.returns-clause-element
returns-clause-element g c =
    let n = ap (λ (v : ExplainerState). v.elements) c.self.view_is in
    let s = subst (λ (v : ExplainerState). IsSome (tree_of c.args.pe c.args.cell v.trees)) (sym c.self.view_is) c.requires in
    omega (arith, n, element_of c.self.inside.elements c.args.pe c.args.cell (trees_of c.self.inside.order) c.self.invariant.1.elements s)

pub returns-clause-room : goal.returns-clause-room
returns-clause-room g c =
    let p = c.args.pe in
    let a = c.args.cell in
    let ks = trees_of c.self.inside.order in
    let m = ap (λ (v : ExplainerState). v.most_open) c.self.view_is in
    let s = subst (λ (v : ExplainerState). IsSome (tree_of p a v.trees)) (sym c.self.view_is) c.requires in
    let trees : without c.of-2.result.value c.of-3.result.value (trees_of c.of.result.value) ≡ without p a ks = cc in
    let t = ap (λ us. held_by p us) trees in
    omega (arith, m, t, one_fewer p a ks s, c.self.invariant.1.few p)

pub returns-clause-free : goal.returns-clause-free
returns-clause-free g c =
    let p = c.args.pe in
    let a = c.args.cell in
    let ks = trees_of c.self.inside.order in
    let trees : without c.of-2.result.value c.of-3.result.value (trees_of c.of.result.value) ≡ without p a ks = cc in
    ap (λ us. tree_of p a us) trees ∙ none_left c.self.inside.elements c.self.inside.most_open p a c.self.inside.slots.items ks c.self.invariant.2
