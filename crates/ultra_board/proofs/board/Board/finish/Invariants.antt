use Rattle.ultra_board.proofs.board.Board.finish.Given as goal

abbrev pub ghosts-add_to_done : goal.ghosts-add_to_done
ghosts-add_to_done a = record { number = a.number }
