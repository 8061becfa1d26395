use Rattle.std.proofs.Common.{◌≡◌}
use Rattle.library_tests.proofs.boards.draw_all.Given as goal

abbrev pub invariant-loop : goal.invariant-loop
invariant-loop l =
    (l.seat.board ≡ l.board.id)
    × (l.seat.view.places ≡ l.fn.seat.view.places)
    × (l.seat.view.finished ≡ l.seat.view.drawn)
