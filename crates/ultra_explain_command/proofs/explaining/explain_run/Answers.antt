use Rattle.std.proofs.{Common.{◌≡◌, inl, inr, refl}, lemmas.Result.{err_from_is_err_and, IfErr-weaker}}
use Rattle.ultra_msg.proofs.{Parts.at_error, Prefixes.takes_none}
use Rattle.ultra_inputs.specs.declared.failure.Failure.{Failure, TheVariants.HeapTooSmall}
use Rattle.ultra_explain_command.specs.Explanation.{AreLinesCut}
use Rattle.ultra_explain_command.proofs.explaining.explain_run.Goals as goal

never_small : (f : Failure) → AreLinesCut f → ¬ (f ≡ HeapTooSmall)
never_small f (inl e) small = absurd cc
never_small f (inr (inl e)) small = absurd cc
never_small f (inr (inr e)) small = absurd cc

pub returns-in_err-heap-clause-ok : goal.returns-in_err-heap-clause-ok
returns-in_err-heap-clause-ok g c =
    let p = err_from_is_err_and c.from_residual.result c.from_residual.ensures.1 in
    rw p.1 tt

pub returns-in_err-heap-clause-err : goal.returns-in_err-heap-clause-err
returns-in_err-heap-clause-err g c = at_error c.from_residual.result (takes_none _ _)

pub returns-in_err-heap-clause-fault : goal.returns-in_err-heap-clause-fault
returns-in_err-heap-clause-fault g c =
    let p = err_from_is_err_and c.from_residual.result c.from_residual.ensures.1 in
    rw (p.1, p.2) (inr (inr (inl refl)))

pub returns-in_err-heap-clause-full : goal.returns-in_err-heap-clause-full
returns-in_err-heap-clause-full g c =
    let p = err_from_is_err_and c.from_residual.result c.from_residual.ensures.1 in
    rw (p.1, p.2) (λ full. absurd cc)

pub returns-in_err-heap-clause-still : goal.returns-in_err-heap-clause-still
returns-in_err-heap-clause-still g c =
    let p = err_from_is_err_and c.from_residual.result c.from_residual.ensures.1 in
    rw p.1 tt

pub returns-in_err-explainer-clause-ok : goal.returns-in_err-explainer-clause-ok
returns-in_err-explainer-clause-ok g c =
    let p = err_from_is_err_and c.from_residual-in_err-explainer.result c.from_residual-in_err-explainer.ensures.1 in
    rw p.1 tt

pub returns-in_err-explainer-clause-err : goal.returns-in_err-explainer-clause-err
returns-in_err-explainer-clause-err g c = at_error c.from_residual-in_err-explainer.result (takes_none _ _)

pub returns-in_err-explainer-clause-fault : goal.returns-in_err-explainer-clause-fault
returns-in_err-explainer-clause-fault g c =
    let p = err_from_is_err_and c.from_residual-in_err-explainer.result c.from_residual-in_err-explainer.ensures.1 in
    rw (p.1, p.2) (inl c.in_err-explainer.ensures.no_room)

pub returns-in_err-explainer-clause-full : goal.returns-in_err-explainer-clause-full
returns-in_err-explainer-clause-full g c =
    let p = err_from_is_err_and c.from_residual-in_err-explainer.result c.from_residual-in_err-explainer.ensures.1 in
    rw (p.1, p.2) (λ full. let small = c.in_err-explainer.ensures.no_room in absurd cc)

pub returns-in_err-explainer-clause-still : goal.returns-in_err-explainer-clause-still
returns-in_err-explainer-clause-still g c =
    let p = err_from_is_err_and c.from_residual-in_err-explainer.result c.from_residual-in_err-explainer.ensures.1 in
    rw p.1 tt

pub returns-clause-ok : goal.returns-clause-ok
returns-clause-ok g c = c.explain_program.ensures.ok

pub returns-clause-err : goal.returns-clause-err
returns-clause-err g c = c.explain_program.ensures.err

pub returns-clause-fault : goal.returns-clause-fault
returns-clause-fault g c = IfErr-weaker c.explain_program.result _ _ (λ f why. inr why) c.explain_program.ensures.fault

pub returns-clause-full : goal.returns-clause-full
returns-clause-full g c = c.explain_program.ensures.full

pub returns-clause-still : goal.returns-clause-still
returns-clause-still g c = c.explain_program.ensures.still

pub returns-clause-counted : goal.returns-clause-counted
returns-clause-counted g c = c.explain_program.ensures.counted

pub returns-in_err-heap-clause-too_small : goal.returns-in_err-heap-clause-too_small
returns-in_err-heap-clause-too_small g c =
    let p = err_from_is_err_and c.from_residual.result c.from_residual.ensures.1 in
    rw (p.1, p.2) (λ small. refl)

pub returns-in_err-explainer-clause-too_small : goal.returns-in_err-explainer-clause-too_small
returns-in_err-explainer-clause-too_small g c =
    let p = err_from_is_err_and c.from_residual-in_err-explainer.result c.from_residual-in_err-explainer.ensures.1 in
    rw (p.1, p.2) (λ small. refl)

pub returns-clause-too_small : goal.returns-clause-too_small
returns-clause-too_small g c = IfErr-weaker c.explain_program.result _ _ (λ f why small. absurd (never_small f why small)) c.explain_program.ensures.fault
