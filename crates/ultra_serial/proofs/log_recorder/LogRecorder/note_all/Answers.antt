use Rattle.std.proofs.Common.{arith, take, subst, sym}
use Rattle.ultra_serial.specs.LogRecorder.{Records, logged_all}
use Rattle.ultra_serial.proofs.{Turns.some_event, Numbers.logged_more}
use Rattle.ultra_serial.proofs.log_recorder.LogRecorder.note_all.Goals as goal

pub loop-event-preserved : goal.loop-event-preserved
loop-event-preserved c = λ l r.
    let n = c.args.cycle in
    let es = c.args.events.now in
    let k = c.loop-event.event-index in
    subst (λ g. Records c.note.new.self g) (sym (logged_more n es l k some_event (omega arith)))
    (c.in_ok-note.ensures (logged_all n (take k es) l) (c.loop-event.invariant l r))
