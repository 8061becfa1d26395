-- how each exit of a listing is one of the ways in which a listing fails
use Rattle.std.proofs.{Common.{ℕ, Bool, List, ap, refl}, lemmas.Result.err_from_is_err_and}
use Rattle.ultra_io.specs.Source.{File}
use Rattle.ultra_inputs.specs.{declared.failure.Failure.Failure, Inputs.{ExplainsProgram, FileGaveNothing, not_had, not_accepted}, Traffic.traffic}
use Rattle.ultra_commands.specs.Listing.{ListFails, unread_text, refused_text, unwritten, not_careful}
use Rattle.ultra_commands.proofs.listing.list.Goals as goal

-- a file that gave no program fails the listing, and nothing is written
no_program : (prog : List ℕ) (careful : Bool) (written : List ℕ) (old new : List File) (f : Failure) → FileGaveNothing ExplainsProgram prog old new f → ListFails prog careful (traffic old written) (traffic new written) f
no_program prog careful written old new f (not_had why same) = unread_text why (ap (λ files. traffic files written) same)
no_program prog careful written old new f (not_accepted text why files) = refused_text text why (ap (λ files. traffic files written) files)

pub returns-in_err-program-clause-err : goal.returns-in_err-program-clause-err
returns-in_err-program-clause-err g c =
    let p = err_from_is_err_and c.from_residual.result c.from_residual.ensures.1 in
    rw (p.1, p.2) (no_program c.args.program_path.now c.args.careful _ _ _ _ c.in_err-program.ensures.err)

pub returns-in_default-clause-err : goal.returns-in_default-clause-err
returns-in_default-clause-err g c =
    let gave = c.in_ok-program.ensures.ok in
    unwritten gave.text c.in_ok-program.program gave.given refl gave.files c.in_default.ensures.err

pub returns-in-Some-clause-err : goal.returns-in-Some-clause-err
returns-in-Some-clause-err g c =
    let gave = c.in_ok-program.ensures.ok in
    let first = c.in-Some.ensures.some in
    not_careful gave.text c.in_ok-program.program gave.given first.0 c.args.program_path c.in-Some.instruction refl refl first.1 gave.files c.in-Ok.ensures.ok
