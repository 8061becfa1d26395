use Rattle.std.proofs.Common.{refl, arith, length-drop}
use Rattle.ultra_switch.proofs.Marking.{are_of-drop, drop-marked_by, head-marked_by}
use Rattle.ultra_switch.proofs.marked_queue.MarkedQueue.pop.Goals as goal

pub invariant_of-self : goal.invariant_of-self
invariant_of-self c =
    let rs = c.self.inside.requests.items in
    rw (c.pop.ensures.items) record {
      marks = are_of-drop c.moved-self-inside.result c.self.inside.marks rs c.moved-self-inside.ensures c.self.invariant.marks;
      within = omega (arith, length-drop 1 rs, c.self.invariant.within);
      most = c.self.invariant.most;
    }

pub returns-clause-value : goal.returns-clause-value
returns-clause-value c = rw (← c.self.view_is, head-marked_by c.self.inside.marks c.self.inside.requests.items) c.pop.ensures.value

pub returns-clause-entries : goal.returns-clause-entries
returns-clause-entries c = rw (← c.self.view_is, c.pop.ensures.items, drop-marked_by c.moved-self-inside.result c.self.inside.marks c.self.inside.requests.items c.moved-self-inside.ensures) refl
