use Rattle.std.proofs.Common.{sym, ap, ◌∙◌, arith}
use Rattle.ultra_board.proofs.Seats.{splits}
use Rattle.ultra_board.proofs.words.BoardWords.split.Goals as goal

pub split_seat-requires : goal.split_seat-requires
split_seat-requires c =
    let token = c.args.token.now in (
      c.requires.board ∙ sym (ap (λ b. b.id) c.self.view_is),
      (let three = c.self.invariant.0 in omega arith),
      λ s h at. splits c.self.inside.table.shared.key s h token.id token.me.0 at c.requires.places c.requires.no_try,
    )
