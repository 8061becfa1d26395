use Rattle.std.proofs.Common.{sym, ap}
use Rattle.ultra_board.proofs.board.Board.join.Goals as goal

pub returns-clause-once : goal.returns-clause-once
returns-clause-once c = λ i.
    let mine = ap (λ s. s.view.drawn) c.seat.view_is in
    let theirs = ap (λ s. s.view.drawn) c.other.view_is in
    let both = ap (λ me. me.0.drawn) c.join.ensures.joined in
    rw (sym mine, sym theirs, sym both) (c.load_claim.ensures.step.once i)
