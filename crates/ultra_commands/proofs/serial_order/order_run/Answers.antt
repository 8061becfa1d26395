-- the order of the cycles that the trace has is that of all cycles that the settings allow
use Rattle.std.proofs.Common.{◌≡◌, ◌∙◌, ap, inl, refl, sym}
use Rattle.std.proofs.lemmas.Result.{err_from_is_err_and}
use Rattle.ultra_msg.proofs.{Parts.at_error, Prefixes.takes_none}
use Rattle.ultra_serial_law.specs.SerialList.{serial_list}
use Rattle.ultra_serial.specs.OrderedRunState.{OrderedRunState, whole_list}
use Rattle.ultra_commands.specs.Order.{order_of, order_text}
use Rattle.ultra_explain_command.proofs.LastCycle.{list_of_all_cycles}
use Rattle.ultra_commands.proofs.serial_order.order_run.Goals as goal

pub returns-in_err-run-clause-ok : goal.returns-in_err-run-clause-ok
returns-in_err-run-clause-ok g c =
    let p = err_from_is_err_and c.from_residual.result c.from_residual.ensures.1 in
    rw p.1 tt

pub returns-in_err-run-clause-err : goal.returns-in_err-run-clause-err
returns-in_err-run-clause-err g c = at_error c.from_residual.result (takes_none _ _)

pub returns-in_err-run-clause-stopped : goal.returns-in_err-run-clause-stopped
returns-in_err-run-clause-stopped g c =
    let p = err_from_is_err_and c.from_residual.result c.from_residual.ensures.1 in
    rw (p.1, p.2) (inl refl)

pub returns-clause-ok : goal.returns-clause-ok
returns-clause-ok g c =
    let config = c.args.config.now in
    let program = c.args.program.now in
    let lines : order_text (whole_list c.in_ok-run.run') ≡ order_of config program =
    ap (λ (r : OrderedRunState). order_text (whole_list r)) c.in_ok-run.ensures ∙ (ap (λ n. order_text (serial_list config program n)) c.cycles.ensures.value ∙ sym (ap order_text (list_of_all_cycles config program))) in
    rw lines at c.write_order.ensures.ok

pub returns-clause-err : goal.returns-clause-err
returns-clause-err g c =
    let config = c.args.config.now in
    let program = c.args.program.now in
    let lines : order_text (whole_list c.in_ok-run.run') ≡ order_of config program =
    ap (λ (r : OrderedRunState). order_text (whole_list r)) c.in_ok-run.ensures ∙ (ap (λ n. order_text (serial_list config program n)) c.cycles.ensures.value ∙ sym (ap order_text (list_of_all_cycles config program))) in
    rw lines at c.write_order.ensures.err

pub returns-clause-stopped : goal.returns-clause-stopped
returns-clause-stopped g c = c.write_order.ensures.stopped

pub returns-clause-still : goal.returns-clause-still
returns-clause-still g c = c.write_order.ensures.still

pub returns-clause-counted : goal.returns-clause-counted
returns-clause-counted g c = c.write_order.ensures.counted
