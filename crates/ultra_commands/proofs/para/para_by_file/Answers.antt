-- how each exit is one of the ways in which a run by a file's schedule isn't written
use Rattle.std.proofs.{Common.{◌≡◌, refl}, lemmas.Result.err_from_is_err_and}
use Rattle.ultra_commands.specs.Paracomputer.{refused, stopped}
use Rattle.ultra_commands.proofs.para.para_by_file.Goals as goal

pub returns-in_err-inputs-clause-err : goal.returns-in_err-inputs-clause-err
returns-in_err-inputs-clause-err g c =
    let p = err_from_is_err_and c.from_residual.result c.from_residual.ensures.1 in
    rw (p.1, p.2) (refused c.in_err-inputs.ensures.err (refl {a = g.O.Sink.taken c.args.out.now}))

pub returns-in-Ok-clause-ok : goal.returns-in-Ok-clause-ok
returns-in-Ok-clause-ok g c =
    let a = c.in_ok-inputs in
    let written = rw c.as_slice.ensures.value at c.in-Ok.ensures.ok in
    record { settings = a.inputs.config; program = a.inputs.program; steps = a.steps; gave = a.ensures.ok; written = written }

pub returns-clause-err : goal.returns-clause-err
returns-clause-err g c =
    let a = c.in_ok-inputs in
    let begun = rw c.as_slice.ensures.value at c.in-Err.ensures.err in
    stopped a.inputs.config a.inputs.program a.steps a.ensures.ok c.failure_of_run_alone.ensures.stopped begun
