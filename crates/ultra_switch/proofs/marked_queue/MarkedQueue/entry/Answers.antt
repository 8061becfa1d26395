use Rattle.std.proofs.Common.{arith}
use Rattle.ultra_switch.proofs.Marking.{length-marked_by, get-marked_by}
use Rattle.ultra_switch.proofs.marked_queue.MarkedQueue.entry.Goals as goal

pub get-requires : goal.get-requires
get-requires c = rw (← c.self.view_is, length-marked_by c.self.inside.marks c.self.inside.requests.items) at c.requires

pub has-requires : goal.has-requires
has-requires c =
    let within = rw (← c.self.view_is, length-marked_by c.self.inside.marks c.self.inside.requests.items) at c.requires in
    omega (arith, within, c.self.invariant.within, c.self.invariant.most)

pub returns : goal.returns
returns c = rw (← c.self.view_is, c.has.ensures, c.request.ensures) (get-marked_by c.self.inside.marks c.args.place c.self.inside.requests.items c.get.result c.get.ensures)
