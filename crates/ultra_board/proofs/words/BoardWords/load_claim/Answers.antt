use Rattle.std.proofs.Common.{sym, ap, ◌∙◌, arith, refl}
use Rattle.atomic_table.specs.Table.{keeps}
use Rattle.ultra_board.proofs.Claim.{loads_claim}
use Rattle.ultra_board.proofs.words.BoardWords.load_claim.Goals as goal

pub load-requires : goal.load-requires
load-requires c =
    let token = c.args.token.now in (
      c.requires ∙ sym (ap (λ b. b.id) c.self.view_is),
      (let three = c.self.invariant.0 in omega arith),
      λ s h homes at small. let step = loads_claim c.self.inside.table.shared.key s h token.id token.me.0 at in (step.0, keeps, tt, step.1, (refl, step.2, refl)),
    )
