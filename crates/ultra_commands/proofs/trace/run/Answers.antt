-- how each exit of a run is one of the ways in which a run fails
use Rattle.std.proofs.Common.{◌≡◌, ◌≢◌, ◌∙◌, ◌≤◌, ℕ, arith, inl, inr, refl}
use Rattle.std.proofs.lemmas.Result.{err_from_is_err_and}
use Rattle.ultra_trace.specs.RunFault.{RunFault, TheVariants.{Write, NoMemory, NoThread}}
use Rattle.ultra_inputs.specs.Traffic.{refused, stopped}
use Rattle.ultra_commands.specs.Stops.{failure_of_run, IsStoppedBy}
use Rattle.ultra_commands.proofs.Parts.{all_is_trace}
use Rattle.ultra_commands.proofs.trace.run.Goals as goal

-- a fault of a run by n workers stops the command, and by one worker it is never want of a thread
stops : (workers : ℕ) (fault : RunFault) → (workers ≡ 1 → fault ≢ NoThread) → IsStoppedBy workers (failure_of_run fault)
stops workers Write alone = inl (inr refl)
stops workers NoMemory alone = inl (inl refl)
stops workers NoThread alone = inr (refl, λ one. alone one refl)

pub returns-in_err-config-clause-err : goal.returns-in_err-config-clause-err
returns-in_err-config-clause-err g c =
    let p = err_from_is_err_and c.from_residual.result c.from_residual.ensures.1 in
    rw (p.1, p.2) (record {
      shown = refused c.in_err-config.ensures.err (refl {a = g.O.Sink.taken c.args.out.now});
      whole = λ all. refused c.in_err-config.ensures.err (refl {a = g.O.Sink.taken c.args.out.now});
    })

pub returns-in-Ok-clause-ok : goal.returns-in-Ok-clause-ok
returns-in-Ok-clause-ok g c =
    let inputs = c.in_ok-config.field-0 in
    let written = c.in-Ok.ensures.ok in
    let few : inputs.config.cycles ≤ 1000000 = omega (arith, c.cycles-cycles.ensures.value, c.cycles-cycles.ensures.range.1) in
    record {
      shown = record { settings = inputs.config; program = inputs.program; gave = c.in_ok-config.ensures.ok; written = written };
      whole = λ all. record {
        settings = inputs.config;
        program = inputs.program;
        gave = c.in_ok-config.ensures.ok;
        written = rw (all_is_trace c.args.part inputs.config inputs.program few all) at written;
      };
    }

pub returns-clause-err : goal.returns-clause-err
returns-clause-err g c =
    let inputs = c.in_ok-config.field-0 in
    let gave = c.in_ok-config.ensures.ok in
    let why = stops c.args.workers c.in-Err.fault (λ one. c.in-Err.ensures.alone (c.count-count.ensures.value ∙ one)) in
    let begun = c.in-Err.ensures.err in
    let few : inputs.config.cycles ≤ 1000000 = omega (arith, c.cycles-cycles.ensures.value, c.cycles-cycles.ensures.range.1) in
    rw c.failure_of_run.ensures (record {
      shown = stopped inputs.config inputs.program gave why begun;
      whole = λ all. stopped inputs.config inputs.program gave why (rw (all_is_trace c.args.part inputs.config inputs.program few all) at begun);
    })
