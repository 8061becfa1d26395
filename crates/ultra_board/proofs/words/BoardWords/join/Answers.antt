use Rattle.std.proofs.Common.{sym, ap, ◌∙◌, arith}
use Rattle.ultra_board.proofs.Seats.{joins}
use Rattle.ultra_board.proofs.words.BoardWords.join.Goals as goal

pub join_seat-requires : goal.join_seat-requires
join_seat-requires c =
    let token = c.args.token.now in
    let other = c.args.other in
    let id = sym (ap (λ b. b.id) c.self.view_is) in (
      c.requires.board.0 ∙ id,
      c.requires.board.1 ∙ id,
      c.requires.no_slot,
      (let three = c.self.invariant.0 in omega arith),
      λ s h at apart other_at. joins c.self.inside.table.shared.key s h token.id other.id token.me.0 other.me.0 at apart other_at c.requires.place c.requires.no_try,
    )
