use Rattle.std.proofs.{Common.arith, lemmas.List.length-drop}
use Rattle.ultra_pni.specs.Interface.{Interface}
use Rattle.ultra_pni.proofs.Latest.{latest-leave}
use Rattle.ultra_pni.proofs.Pni.leave_packet.Goals as goal

pub invariant_of-self : goal.invariant_of-self
invariant_of-self c =
    let was = c.self.invariant.within in
    let i : Interface = record { opened = c.self.inside.opened.items; pending = c.self.inside.pending } in
    let shorter = length-drop 1 c.self.inside.pending in
    record {
      within = record {
        small = was.small;
        opened = was.opened;
        pending = rw c.pop.ensures.rest (omega (arith, shorter));
        latest = rw c.pop.ensures.rest (latest-leave i was.pending was.latest);
        different = was.different;
      };
      awaited = c.self.invariant.awaited;
    }
