-- how each exit is one of the ways in which two files give nothing
use Rattle.std.proofs.Common.{◌≡◌, ◌∙◌, ℕ, List, ◌++◌, ◌∷◌, [], append_assoc, ap}
use Rattle.std.proofs.lemmas.Result.{err_from_is_err_and}
use Rattle.ultra_model.specs.Machine.{Settings}
use Rattle.ultra_io.specs.Source.{File}
use Rattle.ultra_inputs.specs.declared.failure.Failure.{Failure}
use Rattle.ultra_inputs.specs.Inputs.{IsAccepted, ExplainsSettings, ExplainsProgram, FileGave, FileGaveNothing, not_had, not_accepted, GaveNothing, unread_settings, refused_settings, unread_program, refused_program}
use Rattle.ultra_inputs.proofs.inputs.read_inputs.Goals as goal

-- a list with one more element, and then another
one_then_one : {A : Type 0} (x y : A) (xs ys zs : List A) → ys ≡ xs ++ x ∷ [] → zs ≡ ys ++ y ∷ [] → zs ≡ xs ++ x ∷ y ∷ []
one_then_one x y xs ys zs e f = f ∙ ap (λ us. us ++ y ∷ []) e ∙ append_assoc xs (x ∷ []) (y ∷ [])

-- a file that gave no settings, or that gave them before a file that gave no program
no_settings : (conf prog : List ℕ) (old new : List File) (f : Failure) → FileGaveNothing ExplainsSettings conf old new f → GaveNothing conf prog old new f
no_settings conf prog old new f (not_had why same) = unread_settings why same
no_settings conf prog old new f (not_accepted text why files) = refused_settings text why files

no_program : (conf prog : List ℕ) (old between new : List File) (c : Settings) (f : Failure) → FileGave IsAccepted conf old between c → FileGaveNothing ExplainsProgram prog between new f → GaveNothing conf prog old new f
no_program conf prog old between new c f gave (not_had why same) = unread_program gave.text c gave.given why (same ∙ gave.files)
no_program conf prog old between new c f gave (not_accepted text why files) =
    refused_program gave.text text c gave.given why (one_then_one _ _ old between new gave.files files)

pub returns-in_err-config-clause-err : goal.returns-in_err-config-clause-err
returns-in_err-config-clause-err g c =
    let p = err_from_is_err_and c.from_residual.result c.from_residual.ensures.1 in
    rw (p.1, p.2) (no_settings c.args.settings_path.now c.args.program_path.now _ _ _ c.in_err-config.ensures.err)

pub returns-in_err-program-clause-err : goal.returns-in_err-program-clause-err
returns-in_err-program-clause-err g c =
    let p = err_from_is_err_and c.from_residual-in_err-program.result c.from_residual-in_err-program.ensures.1 in
    rw (p.1, p.2) (no_program c.args.settings_path.now c.args.program_path.now _ _ _ c.in_ok-config.config _ c.in_ok-config.ensures.ok c.in_err-program.ensures.err)
