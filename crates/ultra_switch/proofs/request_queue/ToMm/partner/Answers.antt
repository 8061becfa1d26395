use Rattle.std.proofs.Common.{arith}
use Rattle.ultra_switch.specs.Arrive.{Lane}
use Rattle.ultra_switch.proofs.Combining.{is_partner}
use Rattle.ultra_switch.proofs.request_queue.ToMm.partner.Goals as goal

pub returns-then-len-self : goal.returns-then-len-self
returns-then-len-self c =
    let lane : Lane = record { queue = c.self.inside.queue.entries; records = c.self.inside.records.items } in
    rw (← c.self.view_is) (is_partner c.self.inside.wait_places lane c.args.request.now c.partner.result (omega arith) c.partner.ensures)
