use Rattle.std.proofs.Common.{sym, ◌∙◌}
use Rattle.ultra_switch.proofs.Marking.{length-marked_by}
use Rattle.ultra_switch.proofs.marked_queue.MarkedQueue.len.Goals as goal

pub returns-clause-value : goal.returns-clause-value
returns-clause-value c = rw (← c.self.view_is) (c.len.ensures.len ∙ sym (length-marked_by c.self.inside.marks c.self.inside.requests.items))
