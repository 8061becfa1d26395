use Rattle.std.proofs.Common.{sym, ap, ◌∙◌, arith, refl}
use Rattle.atomic_table.specs.Table.{keeps}
use Rattle.ultra_board.proofs.Passes.{loads_passes}
use Rattle.ultra_board.proofs.words.BoardWords.load_passes.Goals as goal

pub load-requires : goal.load-requires
load-requires c =
    let token = c.args.token.now in (
      c.requires.board ∙ sym (ap (λ b. b.id) c.self.view_is),
      (let three = c.self.invariant.0 in omega arith),
      λ s h homes at small. let step = loads_passes c.self.inside.table.shared.key s h token.id token.me.0 at c.requires.place c.requires.no_try in (step.0, keeps, tt, step.1, (refl, step.2, refl)),
    )
