use Rattle.std.proofs.Common.{sym, ap, ◌∙◌, arith, refl}
use Rattle.atomic_table.specs.Table.{keeps}
use Rattle.ultra_board.proofs.Passes.{subtracts_from_passes}
use Rattle.ultra_board.proofs.words.BoardWords.subtract_from_passes.Goals as goal

pub fetch_sub-requires : goal.fetch_sub-requires
fetch_sub-requires c =
    let token = c.args.token.now in (
      c.requires.board ∙ sym (ap (λ b. b.id) c.self.view_is),
      (let three = c.self.invariant.0 in omega arith),
      λ s h homes at small. let step = subtracts_from_passes c.self.inside.table.shared.key s h token.id token.me.0 at c.requires.place c.requires.some c.requires.one_try in (step.0, keeps, tt, step.1, (refl, step.2, refl)),
    )
