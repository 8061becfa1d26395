use Rattle.std.proofs.Common.{◌+◌, ◌∙◌, ap}
use Rattle.ultra_switch.proofs.Marking.{length-marked_by}
use Rattle.ultra_switch.proofs.marked_queue.MarkedQueue.free.Goals as goal

pub returns : goal.returns
returns c = rw (← c.self.view_is) (ap (λ n. n + c.free.result) (length-marked_by c.self.inside.marks c.self.inside.requests.items) ∙ c.free.ensures)
