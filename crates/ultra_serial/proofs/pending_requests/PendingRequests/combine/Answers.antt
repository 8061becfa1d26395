use Rattle.std.proofs.{Common.{◌∙◌, ap, sym}, lemmas.Result.on_ok_weaker}
use Rattle.ultra_serial_law.specs.Tree.{without}
use Rattle.ultra_serial.specs.PendingRow.{items_in}
use Rattle.ultra_serial.proofs.Stacks.{keeps_none, keeps_combined, keeps_own}
use Rattle.ultra_serial.proofs.pending_requests.PendingRequests.combine.Goals as goal

pub returns-in_default : goal.returns-in_default
returns-in_default c = λ ks s x h.
    keeps_none s x c.args.cell c.args.old c.args.new c.args.old_first ks c.take-in_default.new.self
    (ap items_in (sym c.in_default.is) ∙ c.take.ensures.taken ks h)
    (c.take-in_default.ensures.kept (without c.args.new c.args.cell ks) (c.take.ensures.kept ks h))

pub returns-then-old-new : goal.returns-then-old-new
returns-then-old-new c = on_ok_weaker c.join.result (λ joined ks s x h.
    keeps_own s x c.args.cell c.args.old c.args.new c.args.old_first ks c.take.new.self c.join.new.self (c.take.ensures.kept ks h) c.in-Some.leaves.items
    (ap items_in (sym c.in-Some.is) ∙ c.take.ensures.taken ks h) c.if-old-new.true joined) c.join.ensures

pub returns-else-old-new : goal.returns-else-old-new
returns-else-old-new c = on_ok_weaker c.join-else-old-new.result (λ joined ks s x h.
    keeps_combined s x c.args.cell c.args.old c.args.new c.args.old_first ks c.take.new.self c.join-else-old-new.new.self (c.take.ensures.kept ks h) c.in-Some.leaves.items
    (ap items_in (sym c.in-Some.is) ∙ c.take.ensures.taken ks h) c.if-old-new.false joined) c.join-else-old-new.ensures
