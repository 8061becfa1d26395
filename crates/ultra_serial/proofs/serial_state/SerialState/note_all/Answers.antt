use Rattle.std.proofs.{Common.{arith, take, subst, sym}, lemmas.List.take_all}
use Rattle.ultra_serial_law.specs.SerialList.{noted}
use Rattle.ultra_serial.specs.Following.{Follows}
use Rattle.ultra_serial.proofs.Turns.{noted_more, some_event}
use Rattle.ultra_serial.proofs.serial_state.SerialState.note_all.Goals as goal

pub loop-event-preserved : goal.loop-event-preserved
loop-event-preserved c = λ n initial listed h f.
    let es = c.args.events.now in
    let k = c.loop-event.event-index in
    subst (λ g. Follows initial listed c.note.new.self g) (sym (noted_more n es h k some_event (omega arith)))
    (c.in_ok-note.ensures n initial listed (noted n (take k es) h) (c.loop-event.invariant n initial listed h f))

pub returns : goal.returns
returns c = λ n initial listed h f.
    subst (λ es. Follows initial listed c.loop-event.self (noted n es h)) (take_all c.loop-event.event-index c.args.events.now c.loop-event-test.false) (c.loop-event.invariant n initial listed h f)
