use Rattle.std.proofs.{Common.{rules, true, false}, lemmas.Iterator.first_from_Range}
use Rattle.ultra_switch.specs.Arrive.{can_combine}
use Rattle.ultra_switch.proofs.Partners.{Says, first_of_places}
use Rattle.ultra_switch.proofs.marked_queue.MarkedQueue.partner.Goals as goal

pub returns : goal.returns
returns c =
    let es = c.args.self.now.entries in
    let p = can_combine c.args.request.now in
    let found = first_from_Range _ _ _ _ (Says p es true) (Says p es false) c.find.ensures.ran (λ x q k. search rules) (λ x q k. (search rules, search rules)) in
    first_of_places p es c.len.result c.find.result c.len.ensures.value found
