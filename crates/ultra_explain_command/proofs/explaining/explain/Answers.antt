-- how each exit is one of the ways in which an explanation isn't written
use Rattle.std.proofs.Common.{◌≡◌, ℕ, ◌+◌, List, arith, inl, inr, refl, ap, subst}
use Rattle.std.specs.Prelude.{Result, Ok, Err, IfErr, OnErr}
use Rattle.std.proofs.lemmas.Result.{err_from_is_err_and, IfErr-weaker, on_ok_weaker}
use Rattle.ultra_io.specs.Source.{File}
use Rattle.ultra_inputs.specs.Inputs.{IsUnread, ExplainsSettings, ExplainsProgram, GaveNothing, unread_settings, refused_settings, unread_program, refused_program}
use Rattle.ultra_inputs.specs.{Traffic.{refused, stopped}, Failure.read_failures, declared.failure.Failure.{Failure, TheVariants.HeapFull}}
use Rattle.ultra_explain_command.specs.Explanation.{IsCutShort}
use Rattle.ultra_explain_command.proofs.InRange.{accepted_in_range}
use Rattle.ultra_explain_command.proofs.explaining.explain.Goals as goal

never_full : (conf prog : List ℕ) (old new : List File) (f : Failure) → GaveNothing conf prog old new f → f ≡ HeapFull → ⊥
never_full conf prog old new f (unread_settings u e) full = subst (λ h. IsUnread conf h) full u
never_full conf prog old new f (refused_settings text u e) full = subst (λ h. ExplainsSettings conf text h) full u
never_full conf prog old new f (unread_program text c a u e) full = subst (λ h. IsUnread prog h) full u
never_full conf prog old new f (refused_program text other c a u e) full = subst (λ h. ExplainsProgram prog other h) full u

-- an explanation that ends early hasn't failed to read a file
none_read : (f : Failure) → IsCutShort f → read_failures f ≡ 0
none_read f (inl e) = ap read_failures e
none_read f (inr (inl e)) = ap read_failures e
none_read f (inr (inr (inl e))) = ap read_failures e
none_read f (inr (inr (inr e))) = ap read_failures e

no_more : {a b n : ℕ} → n ≡ 0 → a ≡ b → a ≡ b + n
no_more none same = omega arith

-- where an error says why an explanation ended early, and how far it came
stopped_so : {T : Type 0} {P : Type 0} {Q : Failure → Type 0} (r : Result T Failure) → ((f : Failure) → IsCutShort f → P → Q f) → IfErr r IsCutShort → OnErr r P → IfErr r Q
stopped_so (Ok x) q s p = tt
stopped_so (Err f) q s p = q f s p

pub explain_run-requires : goal.explain_run-requires
explain_run-requires g c =
    let a = c.in_ok-inputs.ensures.ok.accepted in
    rw a.3 (accepted_in_range a.0 a.2)

pub returns-in_err-inputs-clause-ok : goal.returns-in_err-inputs-clause-ok
returns-in_err-inputs-clause-ok g c =
    let p = err_from_is_err_and c.from_residual.result c.from_residual.ensures.1 in
    rw p.1 tt

pub returns-in_err-inputs-clause-err : goal.returns-in_err-inputs-clause-err
returns-in_err-inputs-clause-err g c =
    let p = err_from_is_err_and c.from_residual.result c.from_residual.ensures.1 in
    rw (p.1, p.2) (refused c.in_err-inputs.ensures.err (refl {a = g.O.Sink.taken c.args.out.now}))

pub returns-in_err-inputs-clause-full : goal.returns-in_err-inputs-clause-full
returns-in_err-inputs-clause-full g c =
    let p = err_from_is_err_and c.from_residual.result c.from_residual.ensures.1 in
    rw (p.1, p.2) (λ full. absurd (never_full _ _ _ _ _ c.in_err-inputs.ensures.err full))

pub returns-in_err-inputs-clause-read_counted : goal.returns-in_err-inputs-clause-read_counted
returns-in_err-inputs-clause-read_counted g c =
    let p = err_from_is_err_and c.from_residual.result c.from_residual.ensures.1 in
    rw (p.1, p.2) c.in_err-inputs.ensures.counted

pub returns-clause-ok : goal.returns-clause-ok
returns-clause-ok g c =
    let inputs = c.in_ok-inputs.inputs in
    on_ok_weaker c.explain_run.result (λ written. record {
      settings = inputs.config;
      program = inputs.program;
      gave = c.in_ok-inputs.ensures.ok;
      written = written;
    }) c.explain_run.ensures.ok

pub returns-clause-err : goal.returns-clause-err
returns-clause-err g c =
    let inputs = c.in_ok-inputs.inputs in
    stopped_so c.explain_run.result (λ f why begun. stopped inputs.config inputs.program c.in_ok-inputs.ensures.ok why begun) c.explain_run.ensures.fault c.explain_run.ensures.err

pub returns-clause-full : goal.returns-clause-full
returns-clause-full g c =
    let inputs = c.in_ok-inputs.inputs in
    IfErr-weaker c.explain_run.result _ _ (λ f written full. record {
      settings = inputs.config;
      program = inputs.program;
      gave = c.in_ok-inputs.ensures.ok;
      written = written full;
    }) c.explain_run.ensures.full

pub returns-in_err-inputs-clause-too_small : goal.returns-in_err-inputs-clause-too_small
returns-in_err-inputs-clause-too_small g c =
    let p = err_from_is_err_and c.from_residual.result c.from_residual.ensures.1 in
    rw (p.1, p.2) (λ small. refl)

pub returns-clause-too_small : goal.returns-clause-too_small
returns-clause-too_small g c = c.explain_run.ensures.too_small

pub returns-clause-read_still : goal.returns-clause-read_still
returns-clause-read_still g c = on_ok_weaker c.explain_run.result (λ _. c.in_ok-inputs.ensures.still) c.explain_run.ensures.still

pub returns-clause-read_counted : goal.returns-clause-read_counted
returns-clause-read_counted g c =
    stopped_so c.explain_run.result (λ f why _. no_more (none_read f why) c.in_ok-inputs.ensures.still) c.explain_run.ensures.fault c.explain_run.ensures.err

pub returns-clause-write_still : goal.returns-clause-write_still
returns-clause-write_still g c = c.explain_run.ensures.still

pub returns-clause-write_counted : goal.returns-clause-write_counted
returns-clause-write_counted g c = c.explain_run.ensures.counted
