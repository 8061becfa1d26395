-- how each exit is one of the ways in which the text of a run isn't written
use Rattle.std.proofs.Common.{◌≡◌, ℕ, ◌+◌, arith, inl, inr, refl, ap}
use Rattle.std.specs.Prelude.{Result, Ok, Err, IfErr, OnErr}
use Rattle.std.proofs.lemmas.Result.{err_from_is_err_and, on_ok_weaker}
use Rattle.ultra_inputs.specs.{declared.failure.Failure.Failure, Failure.read_failures, Traffic.{IsStopped, refused, stopped}}
use Rattle.ultra_commands.proofs.run_output.write_run_output.Goals as goal

-- a text that ends early hasn't read a file
none_read : (f : Failure) → IsStopped f → read_failures f ≡ 0
none_read f (inl e) = ap read_failures e
none_read f (inr e) = ap read_failures e

no_more : {a b n : ℕ} → n ≡ 0 → a ≡ b → a ≡ b + n
no_more none same = omega arith

-- where an error says why a text ended early, and how far it came
stopped_so : {T : Type 0} {P : Type 0} {Q : Failure → Type 0} (r : Result T Failure) → ((f : Failure) → IsStopped f → P → Q f) → IfErr r IsStopped → OnErr r P → IfErr r Q
stopped_so (Ok x) q s p = tt
stopped_so (Err f) q s p = q f s p

pub returns-in_err-inputs-clause-ok : goal.returns-in_err-inputs-clause-ok
returns-in_err-inputs-clause-ok g c =
    let p = err_from_is_err_and c.from_residual.result c.from_residual.ensures.1 in
    rw p.1 tt

pub returns-in_err-inputs-clause-err : goal.returns-in_err-inputs-clause-err
returns-in_err-inputs-clause-err g c =
    let p = err_from_is_err_and c.from_residual.result c.from_residual.ensures.1 in
    rw (p.1, p.2) (refused c.in_err-inputs.ensures.err (refl {a = g.O.Sink.taken c.args.out.now}))

pub returns-in_err-inputs-clause-read_counted : goal.returns-in_err-inputs-clause-read_counted
returns-in_err-inputs-clause-read_counted g c =
    let p = err_from_is_err_and c.from_residual.result c.from_residual.ensures.1 in
    rw (p.1, p.2) c.in_err-inputs.ensures.counted

pub returns-clause-ok : goal.returns-clause-ok
returns-clause-ok g c =
    on_ok_weaker c.write.result (λ written. record {
      settings = c.in_ok-inputs.inputs.config;
      program = c.in_ok-inputs.inputs.program;
      gave = c.in_ok-inputs.ensures.ok;
      written = written;
    }) c.write.ensures.ok

pub returns-clause-err : goal.returns-clause-err
returns-clause-err g c =
    stopped_so c.write.result (λ f why begun. stopped c.in_ok-inputs.inputs.config c.in_ok-inputs.inputs.program c.in_ok-inputs.ensures.ok why begun) c.write.ensures.stopped c.write.ensures.err

pub returns-clause-read_still : goal.returns-clause-read_still
returns-clause-read_still g c = on_ok_weaker c.write.result (λ _. c.in_ok-inputs.ensures.still) c.write.ensures.still

pub returns-clause-read_counted : goal.returns-clause-read_counted
returns-clause-read_counted g c =
    stopped_so c.write.result (λ f why _. no_more (none_read f why) c.in_ok-inputs.ensures.still) c.write.ensures.stopped c.write.ensures.err

pub returns-clause-write_still : goal.returns-clause-write_still
returns-clause-write_still g c = c.write.ensures.still

pub returns-clause-write_counted : goal.returns-clause-write_counted
returns-clause-write_counted g c = c.write.ensures.counted
