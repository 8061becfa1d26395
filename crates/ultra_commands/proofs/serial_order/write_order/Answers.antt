-- what the sink has taken when the buffer is let go
use Rattle.std.proofs.{Common.{rules, inl, inr, refl}, lemmas.Result.err_from_is_err_and}
use Rattle.ultra_msg.proofs.Parts.{at_error}
use Rattle.ultra_io.proofs.Writing.{finished, part_taken}
use Rattle.ultra_serial.specs.OrderedRunState.{whole_list}
use Rattle.ultra_commands.specs.Order.{order_text}
use Rattle.ultra_commands.proofs.serial_order.write_order.Goals as goal

pub put_order-requires-clause-sound : goal.put_order-requires-clause-sound
put_order-requires-clause-sound g c = c.new-buffer.ensures.blank.sound

pub returns-in_err-put_order-clause-ok : goal.returns-in_err-put_order-clause-ok
returns-in_err-put_order-clause-ok g c =
    let p = err_from_is_err_and c.from_residual.result c.from_residual.ensures.1 in
    rw p.1 tt

pub returns-in_err-put_order-clause-err : goal.returns-in_err-put_order-clause-err
returns-in_err-put_order-clause-err g c =
    let (part, begins, writes) = c.in_err-put_order.ensures.err in
    let taken = part_taken part (order_text (whole_list c.args.run.now)) _ _ c.new-buffer.ensures.blank.empty c.in_err-put_order.ensures.sound begins writes.wrote in
    at_error c.from_residual.result (search rules)

pub returns-in_err-put_order-clause-stopped : goal.returns-in_err-put_order-clause-stopped
returns-in_err-put_order-clause-stopped g c =
    let p = err_from_is_err_and c.from_residual.result c.from_residual.ensures.1 in
    rw (p.1, p.2) (inl refl)

pub returns-in_err-put_order-clause-still : goal.returns-in_err-put_order-clause-still
returns-in_err-put_order-clause-still g c =
    let p = err_from_is_err_and c.from_residual.result c.from_residual.ensures.1 in
    rw p.1 tt

pub returns-in-Ok-clause-ok : goal.returns-in-Ok-clause-ok
returns-in-Ok-clause-ok g c =
    let gone = finished c.finish.result c.new-buffer.ensures.blank c.in_ok-put_order.ensures.ok c.finish.ensures.writes c.finish.ensures.ok c.finish.ensures.err in
    let taken = rw c.in-Ok.is at gone.ok in
    search rules

pub returns-in-Ok-clause-still : goal.returns-in-Ok-clause-still
returns-in-Ok-clause-still g c =
    let gone = finished c.finish.result c.new-buffer.ensures.blank c.in_ok-put_order.ensures.ok c.finish.ensures.writes c.finish.ensures.ok c.finish.ensures.err in
    let still = rw c.in-Ok.is at gone.still in
    search rules

pub returns-in-Err-clause-err : goal.returns-in-Err-clause-err
returns-in-Err-clause-err g c =
    let gone = finished c.finish.result c.new-buffer.ensures.blank c.in_ok-put_order.ensures.ok c.finish.ensures.writes c.finish.ensures.ok c.finish.ensures.err in
    let taken = rw c.in-Err.is at gone.err in
    search rules

pub returns-in-Err-clause-stopped : goal.returns-in-Err-clause-stopped
returns-in-Err-clause-stopped g c = inr refl

pub returns-in-Err-clause-counted : goal.returns-in-Err-clause-counted
returns-in-Err-clause-counted g c =
    let gone = finished c.finish.result c.new-buffer.ensures.blank c.in_ok-put_order.ensures.ok c.finish.ensures.writes c.finish.ensures.ok c.finish.ensures.err in
    let counted = rw c.in-Err.is at gone.counted in
    search rules
