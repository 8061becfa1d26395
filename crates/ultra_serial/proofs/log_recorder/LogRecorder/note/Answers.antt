use Rattle.std.proofs.Common.{refl}
use Rattle.ultra_serial.proofs.Numbers.{records_issue}
use Rattle.ultra_serial.proofs.log_recorder.LogRecorder.note.Goals as goal

pub returns-in_ok-push-in-Issued : goal.returns-in_ok-push-in-Issued
returns-in_ok-push-in-Issued c = λ l r.
    records_issue c.args.self.now _ l c.args.cycle c.in-Issued.request c.in-Issued.number c.args.event.now c.in-Issued.is r c.in_ok-push-in-Issued.ensures.items refl c.in_ok-set-in-Issued.ensures
