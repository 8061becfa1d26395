use Rattle.std.proofs.Common.{◌≡◌}
use Rattle.bench.proofs.board.draw_alone.Given as goal

abbrev pub invariant-loop : goal.invariant-loop
invariant-loop l =
    (l.seat.board ≡ l.board.id)
    × (l.seat.view.places ≡ l.fn.seat.view.places)
