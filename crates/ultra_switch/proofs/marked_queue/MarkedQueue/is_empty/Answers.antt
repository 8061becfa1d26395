use Rattle.std.proofs.Common.{rules}
use Rattle.ultra_switch.proofs.Marking.{length-marked_by}
use Rattle.ultra_switch.proofs.marked_queue.MarkedQueue.is_empty.Goals as goal

pub returns : goal.returns
returns c = rw (← c.self.view_is, length-marked_by c.self.inside.marks c.self.inside.requests.items) (search rules)
