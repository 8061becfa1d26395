use Rattle.std.proofs.Common.{◌≡◌, ℕ, ◌+◌, ◌++◌, ◌∙◌, arith, inr, ap, append-nil}
use Rattle.std.specs.Prelude.{Result, Ok, Err, IfErr, OnErr}
use Rattle.std.proofs.lemmas.Result.{err_from_is_err_and, IfErr-weaker, on_ok_weaker, on_err_weaker}
use Rattle.ultra_msg.proofs.Prefixes.{rest_cut, rest_passed_on}
use Rattle.ultra_inputs.specs.{Failure.write_failures, declared.failure.Failure.{Failure, TheVariants.NotWritten}}
use Rattle.ultra_explain_command.proofs.explaining.explain_machine.Goals as goal

counted_once : {T : Type 0} (r : Result T Failure) (old now new : ℕ) → now ≡ old → IfErr r (λ f. f ≡ NotWritten) → OnErr r (new ≡ now + 1) → IfErr r (λ f. new ≡ old + write_failures f)
counted_once (Ok x) old now new same why once = tt
counted_once (Err f) old now new same why once = rw why (omega arith)

pub returns-in_err-explain_cycles-clause-ok : goal.returns-in_err-explain_cycles-clause-ok
returns-in_err-explain_cycles-clause-ok g c =
    let p = err_from_is_err_and c.from_residual.result c.from_residual.ensures.1 in
    rw p.1 tt

pub returns-in_err-explain_cycles-clause-err : goal.returns-in_err-explain_cycles-clause-err
returns-in_err-explain_cycles-clause-err g c =
    let p = err_from_is_err_and c.from_residual.result c.from_residual.ensures.1 in
    rw p.1 (rw c.new-lines.ensures at c.in_err-explain_cycles.ensures.err)

pub returns-in_err-explain_cycles-clause-fault : goal.returns-in_err-explain_cycles-clause-fault
returns-in_err-explain_cycles-clause-fault g c =
    let p = err_from_is_err_and c.from_residual.result c.from_residual.ensures.1 in
    rw (p.1, p.2) c.in_err-explain_cycles.ensures.fault

pub returns-in_err-explain_cycles-clause-full : goal.returns-in_err-explain_cycles-clause-full
returns-in_err-explain_cycles-clause-full g c =
    let p = err_from_is_err_and c.from_residual.result c.from_residual.ensures.1 in
    let before = g.O.Sink.taken c.args.out.now in
    let nothing_waits = ap (λ t. before ++ t) c.new-lines.ensures ∙ append-nil before in
    rw (p.1, p.2) (λ full. rw nothing_waits at (c.in_err-explain_cycles.ensures.full full))

pub returns-in_err-explain_cycles-clause-still : goal.returns-in_err-explain_cycles-clause-still
returns-in_err-explain_cycles-clause-still g c =
    let p = err_from_is_err_and c.from_residual.result c.from_residual.ensures.1 in
    rw p.1 tt

pub returns-in_err-explain_cycles-clause-counted : goal.returns-in_err-explain_cycles-clause-counted
returns-in_err-explain_cycles-clause-counted g c =
    let p = err_from_is_err_and c.from_residual.result c.from_residual.ensures.1 in
    rw (p.1, p.2) c.in_err-explain_cycles.ensures.counted

pub returns-clause-ok : goal.returns-clause-ok
returns-clause-ok g c =
    let before = rw c.new-lines.ensures at c.in_ok-explain_cycles.ensures.ok in
    on_ok_weaker c.flush.result (λ handed. rest_passed_on before handed) c.flush.ensures.ok

pub returns-clause-err : goal.returns-clause-err
returns-clause-err g c =
    let before = rw c.new-lines.ensures at c.in_ok-explain_cycles.ensures.ok in
    on_err_weaker c.flush.result (λ cut. rest_cut before cut) c.flush.ensures.err

pub returns-clause-fault : goal.returns-clause-fault
returns-clause-fault g c = IfErr-weaker c.flush.result _ _ (λ f why. inr (inr why)) c.flush.ensures.fault

pub returns-clause-full : goal.returns-clause-full
returns-clause-full g c = IfErr-weaker c.flush.result _ _ (λ f why full. absurd cc) c.flush.ensures.fault

pub returns-clause-still : goal.returns-clause-still
returns-clause-still g c = on_ok_weaker c.flush.result (λ same. same ∙ c.in_ok-explain_cycles.ensures.still) c.flush.ensures.still

pub returns-clause-counted : goal.returns-clause-counted
returns-clause-counted g c = counted_once c.flush.result _ _ _ c.in_ok-explain_cycles.ensures.still c.flush.ensures.fault c.flush.ensures.counted
