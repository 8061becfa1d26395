use Rattle.std.proofs.Common.{sym, ap, ◌∙◌, arith, refl}
use Rattle.atomic_table.specs.Table.{keeps}
use Rattle.ultra_board.proofs.Done.{loads_done}
use Rattle.ultra_board.proofs.words.BoardWords.load_done.Goals as goal

pub load-requires : goal.load-requires
load-requires c =
    let token = c.args.token.now in (
      c.requires ∙ sym (ap (λ b. b.id) c.self.view_is),
      (let three = c.self.invariant.0 in omega arith),
      λ s h homes at small. let step = loads_done c.self.inside.table.shared.key s h token.id token.me.0 at in (step.0, keeps, tt, step.1, (refl, step.2, refl)),
    )
