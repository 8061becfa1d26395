use Rattle.ultra_msg.proofs.Moving.{HasMoved}
use Rattle.ultra_msg.proofs.taking.take_out.Given as goal

abbrev pub invariant-loop-at : goal.invariant-loop-at
invariant-loop-at g l = HasMoved l.fn.list.items l.place l.at l.list.items
