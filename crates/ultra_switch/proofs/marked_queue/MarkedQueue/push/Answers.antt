use Rattle.std.proofs.Common.{arith, refl, length-append, [], ◌∷◌}
use Rattle.ultra_switch.proofs.Marking.{append-marked_by, are_of-append, length-marked_by}
use Rattle.ultra_switch.proofs.marked_queue.MarkedQueue.push.Goals as goal

pub push-requires : goal.push-requires
push-requires c = rw (← c.self.view_is, length-marked_by c.self.inside.marks c.self.inside.requests.items) at c.requires

pub invariant_of-self : goal.invariant_of-self
invariant_of-self c =
    let rs = c.self.inside.requests.items in
    rw (c.push.ensures) record {
      marks = are_of-append c.self.inside.marks rs c.args.request c.self.invariant.marks;
      within = omega (arith, rw (← c.self.view_is, length-marked_by c.self.inside.marks rs) at c.requires, length-append rs (c.args.request ∷ []));
      most = c.self.invariant.most;
    }

pub returns : goal.returns
returns c =
    let rs = c.self.inside.requests.items in
    rw (← c.self.view_is, c.push.ensures, append-marked_by c.self.inside.marks rs c.args.request c.self.invariant.marks) refl
