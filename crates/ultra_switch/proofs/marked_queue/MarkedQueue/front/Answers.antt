use Rattle.std.proofs.Common.{rules}
use Rattle.ultra_switch.proofs.Marking.{head-marked_by}
use Rattle.ultra_switch.proofs.marked_queue.MarkedQueue.front.Goals as goal

pub returns : goal.returns
returns c = rw (← c.self.view_is, head-marked_by c.self.inside.marks c.self.inside.requests.items) (search rules)
