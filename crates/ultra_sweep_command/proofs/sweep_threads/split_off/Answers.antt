use Rattle.ultra_sweep_command.proofs.Sharing.{fresh-rest, fresh-one}
use Rattle.ultra_sweep_command.proofs.sweep_threads.split_off.Goals as goal

pub returns-clause-rest : goal.returns-clause-rest
returns-clause-rest c n = fresh-rest c.args.board.now n c.args.seat _ c.in-Ok.ensures.first

pub returns-clause-one : goal.returns-clause-one
returns-clause-one c n = fresh-one c.args.board.now n c.args.seat _ c.in-Ok.ensures.second
