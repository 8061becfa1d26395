use Rattle.std.proofs.{Common.{arith, refl}, lemmas.List.length-set}
use Rattle.ultra_switch.proofs.Marking.{are_of-set, length-marked_by, set-marked_by}
use Rattle.ultra_switch.proofs.marked_queue.MarkedQueue.replace.Goals as goal

pub set-requires : goal.set-requires
set-requires c = rw (← c.self.view_is, length-marked_by c.self.inside.marks c.self.inside.requests.items) at c.requires

pub with-self-inside-requires : goal.with-self-inside-requires
with-self-inside-requires c =
    let within = rw (← c.self.view_is, length-marked_by c.self.inside.marks c.self.inside.requests.items) at c.requires in
    omega (arith, within, c.self.invariant.within, c.self.invariant.most)

pub invariant_of-self : goal.invariant_of-self
invariant_of-self c =
    let rs = c.self.inside.requests.items in
    let within = rw (← c.self.view_is, length-marked_by c.self.inside.marks rs) at c.requires in
    rw (c.set.ensures) record {
      marks = are_of-set c.with-self-inside.result c.self.inside.marks c.args.place rs c.args.request within c.with-self-inside.ensures.others c.self.invariant.marks;
      within = rw (length-set rs c.args.place c.args.request) c.self.invariant.within;
      most = c.self.invariant.most;
    }

pub returns : goal.returns
returns c =
    let rs = c.self.inside.requests.items in
    let within = rw (← c.self.view_is, length-marked_by c.self.inside.marks rs) at c.requires in
    rw (← c.self.view_is, c.set.ensures, set-marked_by c.with-self-inside.result c.self.inside.marks c.args.place rs c.args.request within c.with-self-inside.ensures.here c.with-self-inside.ensures.others) refl
