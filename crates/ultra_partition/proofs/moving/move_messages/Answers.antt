use Rattle.std.proofs.Common.{arith}
use Rattle.ultra_partition.proofs.{Common.common_steps, Moved.carried_moved}
use Rattle.ultra_partition.proofs.moving.move_messages.Goals as goal

pub returns-in-Some : goal.returns-in-Some
returns-in-Some c =
    carried_moved c.args.kind c.args.net (omega arith) (omega arith) _ _ _ c.args.unit c.in-Some.inlets (rw c.in-Replies.is (grind arith)) c.requires.from (c.requires.home (omega arith)) c.if-home-from.false (rw c.in-Replies.is (grind (arith, common_steps))) c.requires.single _ (rw c.in-Replies.is (grind (arith, common_steps)))

pub returns-in-Some-request_inlets : goal.returns-in-Some-request_inlets
returns-in-Some-request_inlets c =
    carried_moved c.args.kind c.args.net (omega arith) (omega arith) _ _ _ c.args.unit c.in-Some-request_inlets.inlets (rw c.in-Requests.is (grind arith)) c.requires.from (c.requires.home (omega arith)) c.if-home-from.false (rw c.in-Requests.is (grind (arith, common_steps))) c.requires.single _ (rw c.in-Requests.is (grind (arith, common_steps)))
