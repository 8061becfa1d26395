use Rattle.std.proofs.lemmas.Result.{err_from_is_err_and}
use Rattle.ultra_commands.specs.ThirdFile.{not_two, not_third}
use Rattle.ultra_commands.proofs.third_file.read_three.Goals as goal

pub returns-in_err-inputs-clause-err : goal.returns-in_err-inputs-clause-err
returns-in_err-inputs-clause-err g c =
    let p = err_from_is_err_and c.from_residual.result c.from_residual.ensures.1 in
    rw (p.1, p.2) (not_two c.in_err-inputs.ensures.err)

pub returns-in_err-third-clause-err : goal.returns-in_err-third-clause-err
returns-in_err-third-clause-err g c =
    let p = err_from_is_err_and c.from_residual-in_err-third.result c.from_residual-in_err-third.ensures.1 in
    rw (p.1, p.2) (not_third _ c.in_ok-inputs.inputs.config c.in_ok-inputs.inputs.program c.in_ok-inputs.ensures.ok c.in_err-third.ensures.err)
