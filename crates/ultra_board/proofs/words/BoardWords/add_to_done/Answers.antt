use Rattle.std.proofs.Common.{sym, ap, subst, ◌∙◌, arith, refl}
use Rattle.std.specs.Prelude.{slice_index}
use Rattle.atomic_table.specs.Table.{keeps}
use Rattle.ultra_board.specs.Step.{AddsToDone}
use Rattle.ultra_board.proofs.Done.{adds_to_done}
use Rattle.ultra_board.proofs.words.BoardWords.add_to_done.Goals as goal

pub fetch_add-requires : goal.fetch_add-requires
fetch_add-requires g c =
    let token = c.args.token.now in (
      c.requires.board ∙ sym (ap (λ b. b.id) c.self.view_is),
      (let three = c.self.invariant.0 in omega arith),
      λ s h homes at small.
          let step = adds_to_done c.self.inside.table.shared.key s h token.id token.me.0 at c.args.number c.requires.drawn c.requires.unfinished in
          (step.0, keeps, tt, step.1, (refl, subst (λ i. AddsToDone i token.me.0 (slice_index s.words 1) step.0) c.requires.picked step.2, refl)),
    )

pub returns-clause-step : goal.returns-clause-step
returns-clause-step g c = subst (λ i. AddsToDone i c.args.token.now.me.0 c.fetch_add.result c.fetch_add.new.seat.me.0) (sym c.requires.picked) c.fetch_add.ensures.2.1
