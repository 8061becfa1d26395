use Rattle.std.proofs.Common.{ap, subst, sym, ◌∙◌, arith}
use Rattle.std.specs.Prelude.{IsSome}
use Rattle.ultra_serial_law.specs.{Tree.tree_of, Explicable.held_by}
use Rattle.ultra_tree.specs.Absorb.{ExplainerState}
use Rattle.ultra_tree.proofs.{Kept.tree_other, Counted.fewer_rest}
use Rattle.ultra_tree.proofs.explaining.Explainer.combine.Goals as goal

pub take-of_new-requires : goal.take-of_new-requires
take-of_new-requires g c =
    subst (λ o. IsSome o) (sym (ap (λ (v : ExplainerState). tree_of c.args.new c.args.cell v.trees) c.take-of_old.ensures.trees ∙ tree_other c.args.old c.args.new c.args.cell c.args.cell c.requires.held.0 c.args.self.now.trees)) c.requires.held.2

pub put-requires-clause-element : goal.put-requires-clause-element
put-requires-clause-element g c =
    let one = ap (λ (v : ExplainerState). v.elements) c.take-of_old.ensures.trees in
    let two = ap (λ (v : ExplainerState). v.elements) c.take-of_new.ensures.trees in
    omega (arith, one, two, c.take-of_old.ensures.element)

pub put-requires-clause-room : goal.put-requires-clause-room
put-requires-clause-room g c =
    let one = ap (λ (v : ExplainerState). v.most_open) c.take-of_old.ensures.trees in
    let two = ap (λ (v : ExplainerState). v.most_open) c.take-of_new.ensures.trees in
    let less = ap (λ (v : ExplainerState). held_by c.args.old v.trees) c.take-of_new.ensures.trees in
    omega (arith, one, two, less, fewer_rest c.args.old c.args.new c.args.cell c.take-of_old.new.self.trees, c.take-of_old.ensures.room)

pub put-requires-clause-free : goal.put-requires-clause-free
put-requires-clause-free g c =
    let rest = ap (λ (v : ExplainerState). tree_of c.args.old c.args.cell v.trees) c.take-of_new.ensures.trees in
    rest ∙ (tree_other c.args.new c.args.old c.args.cell c.args.cell (λ e. c.requires.held.0 (sym e)) c.take-of_old.new.self.trees ∙ c.take-of_old.ensures.free)
