use Rattle.std.proofs.Common.{sym, ◌∙◌, refl}
use Rattle.ultra_switch.proofs.Splitting.{is_split_by, is_not_split}
use Rattle.ultra_switch.proofs.request_queue.ToMm.split_packet.Goals as goal

pub returns-in-Some-clause-replies : goal.returns-in-Some-clause-replies
returns-in-Some-clause-replies c =
    let ws = c.self.inside.records.items in
    let split = is_split_by c.args.reply ws c.in-Some.place c.take_out.result (rw (← c.deref.ensures.0) (sym c.in-Some.ensures)) c.take_out.ensures.value in
    rw (← c.self.view_is) (rw (c.message.ensures) at c.replies_by.ensures ∙ sym split.replies)

pub returns-in-Some-clause-records : goal.returns-in-Some-clause-records
returns-in-Some-clause-records c =
    let ws = c.self.inside.records.items in
    let split = is_split_by c.args.reply ws c.in-Some.place c.take_out.result (rw (← c.deref.ensures.0) (sym c.in-Some.ensures)) c.take_out.ensures.value in
    rw (← c.self.view_is, split.records, c.take_out.ensures.items) refl

pub returns-in-None-clause-replies : goal.returns-in-None-clause-replies
returns-in-None-clause-replies c =
    let whole = is_not_split c.args.reply c.self.inside.records.items (rw (← c.deref.ensures.0) (sym c.in-None.ensures)) in
    rw (← c.self.view_is) (sym whole.replies)

pub returns-in-None-clause-records : goal.returns-in-None-clause-records
returns-in-None-clause-records c =
    let whole = is_not_split c.args.reply c.self.inside.records.items (rw (← c.deref.ensures.0) (sym c.in-None.ensures)) in
    rw (← c.self.view_is, whole.records) refl
