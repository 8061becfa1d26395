-- how each exit is a verdict that is written, or one of the ways in which none is
use Rattle.std.proofs.{Common.{◌≡◌, refl}, lemmas.Result.err_from_is_err_and}
use Rattle.ultra_commands.specs.Check.{refused, not_legal, stopped}
use Rattle.ultra_commands.proofs.checking.check.Goals as goal

pub returns-in_err-inputs-clause-err : goal.returns-in_err-inputs-clause-err
returns-in_err-inputs-clause-err g c =
    let p = err_from_is_err_and c.from_residual.result c.from_residual.ensures.1 in
    rw (p.1, p.2) (refused c.in_err-inputs.ensures.err (refl {a = g.O.Sink.taken c.args.out.now}))

pub returns-in-Ok-true-clause-ok : goal.returns-in-Ok-true-clause-ok
returns-in-Ok-true-clause-ok g c =
    let a = c.in_ok-inputs in
    let written = rw (c.as_slice.ensures.value, c.in-Ok-true.field-0-test) at c.in-Ok-true.ensures.ok in
    record { settings = a.inputs.config; program = a.inputs.program; entries = a.entries; gave = a.ensures.ok; written = written }

pub returns-in-Ok-false-clause-err : goal.returns-in-Ok-false-clause-err
returns-in-Ok-false-clause-err g c =
    let a = c.in_ok-inputs in
    let written = rw (c.as_slice.ensures.value, c.in-Ok-false.field-0-test) at c.in-Ok-false.ensures.ok in
    not_legal a.inputs.config a.inputs.program a.entries a.ensures.ok refl written

pub returns-clause-err : goal.returns-clause-err
returns-clause-err g c =
    let a = c.in_ok-inputs in
    let fails = rw c.as_slice.ensures.value at c.in-Err.ensures.err in
    stopped a.inputs.config a.inputs.program a.entries a.ensures.ok c.in-Err.fault c.failure_of_verdict.ensures fails
