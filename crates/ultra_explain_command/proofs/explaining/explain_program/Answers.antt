use Rattle.std.proofs.{Common.{inl, inr, refl}, lemmas.Result.err_from_is_err_and}
use Rattle.ultra_msg.proofs.{Parts.at_error, Prefixes.takes_none}
use Rattle.ultra_explain_command.proofs.explaining.explain_program.Goals as goal

pub returns-in_err-machine-clause-ok : goal.returns-in_err-machine-clause-ok
returns-in_err-machine-clause-ok g c =
    let p = err_from_is_err_and c.from_residual.result c.from_residual.ensures.1 in
    rw p.1 tt

pub returns-in_err-machine-clause-err : goal.returns-in_err-machine-clause-err
returns-in_err-machine-clause-err g c = at_error c.from_residual.result (takes_none _ _)

pub returns-in_err-machine-clause-fault : goal.returns-in_err-machine-clause-fault
returns-in_err-machine-clause-fault g c =
    let p = err_from_is_err_and c.from_residual.result c.from_residual.ensures.1 in
    rw (p.1, p.2) (inr (inl refl))

pub returns-in_err-machine-clause-full : goal.returns-in_err-machine-clause-full
returns-in_err-machine-clause-full g c =
    let p = err_from_is_err_and c.from_residual.result c.from_residual.ensures.1 in
    rw (p.1, p.2) (λ full. absurd cc)

pub returns-in_err-machine-clause-still : goal.returns-in_err-machine-clause-still
returns-in_err-machine-clause-still g c =
    let p = err_from_is_err_and c.from_residual.result c.from_residual.ensures.1 in
    rw p.1 tt

pub returns-clause-ok : goal.returns-clause-ok
returns-clause-ok g c = rw c.in_ok-machine.ensures at c.explain_machine.ensures.ok

pub returns-clause-err : goal.returns-clause-err
returns-clause-err g c = rw c.in_ok-machine.ensures at c.explain_machine.ensures.err

pub returns-clause-fault : goal.returns-clause-fault
returns-clause-fault g c = c.explain_machine.ensures.fault

pub returns-clause-full : goal.returns-clause-full
returns-clause-full g c = rw c.in_ok-machine.ensures at c.explain_machine.ensures.full

pub returns-clause-still : goal.returns-clause-still
returns-clause-still g c = c.explain_machine.ensures.still

pub returns-clause-counted : goal.returns-clause-counted
returns-clause-counted g c = c.explain_machine.ensures.counted
