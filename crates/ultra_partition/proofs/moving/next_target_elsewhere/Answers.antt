use Rattle.std.proofs.Common.{arith}
use Rattle.ultra_partition.proofs.moving.next_target_elsewhere.Goals as goal

pub returns-in-Replies : goal.returns-in-Replies
returns-in-Replies c = rw c.in-Replies.is (grind arith)

pub returns-in-Requests : goal.returns-in-Requests
returns-in-Requests c = rw c.in-Requests.is (grind arith)
