use Rattle.std.proofs.{Common.refl, lemmas.Result.on_ok_weaker}
use Rattle.ultra_serial.specs.declared.serial_state.SerialState.{SerialState}
use Rattle.ultra_serial.proofs.Turns.{follows_cleared}
use Rattle.ultra_serial.proofs.serial_state.SerialState.follow.Goals as goal

pub returns : goal.returns
returns c =
    let s = c.args.self.now in
    let cleared : SerialState = record s { entries = c.clear.new.self } in
    on_ok_weaker c.note_all.result (λ noted n initial listed h f.
    noted n initial _ h (follows_cleared initial listed s cleared h refl refl c.clear.ensures.items f)) c.note_all.ensures
