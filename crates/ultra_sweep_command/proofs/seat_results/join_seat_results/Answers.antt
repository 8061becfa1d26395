use Rattle.ultra_sweep_command.proofs.Sharing.{whole-joined}
use Rattle.ultra_sweep_command.proofs.seat_results.join_seat_results.Goals as goal

pub returns : goal.returns
returns c output jobs n whole part = whole-joined output c.args.board.now jobs n c.args.seat_results c.args.other _ c.join.ensures.joined c.in_ok-append.ensures.items whole part
