-- how help and the version end, and words that are no command
use Rattle.std.proofs.Common.{refl, arith, inl, inr}
use Rattle.ultra_command_line.specs.declared.Parsed.TheVariants as parsed
use Rattle.ultra_inputs.specs.{declared.failure.Failure.TheVariants.{Usage, NoMemory, NotWritten}, Shown.stream}
use Rattle.ultra_inputs.proofs.Endings.{not_five}
use Rattle.ultra_commands.proofs.Endings.{failure_ended}
use Rattle.ultra_commands.proofs.obey.Goals as goal

pub returns-in-Help : goal.returns-in-Help
returns-in-Help g c =
    let before = stream (g.E.Sink.taken c.args.err.now) (g.E.Sink.failures c.args.err.now) in
    let did = c.in-Err.ensures in
    let given_up = c.report_failure-in-Err.ensures in
    elim c.in-Help.is [
      | inl is ↦ rw is (failure_ended (parsed.Help c.in-Help.text) _ _ before _ _ _ _ _ _ NotWritten before ((refl, refl, rw c.as_bytes.ensures.value at did.err), refl) (λ r. absurd (not_five r)) (omega arith) did.counted given_up.status (record { begun = given_up.prefix; whole = given_up.whole }))
      | inr is ↦ rw is (failure_ended (parsed.Version c.in-Help.text) _ _ before _ _ _ _ _ _ NotWritten before ((refl, refl, rw c.as_bytes.ensures.value at did.err), refl) (λ r. absurd (not_five r)) (omega arith) did.counted given_up.status (record { begun = given_up.prefix; whole = given_up.whole }))
    ]

pub returns-in-Usage : goal.returns-in-Usage
returns-in-Usage g c =
    let before = stream (g.E.Sink.taken c.args.err.now) (g.E.Sink.failures c.args.err.now) in
    let given_up = c.report_failure.ensures in
    rw c.in-Usage.is (failure_ended (parsed.Usage c.in-Usage.text) _ _ before _ _ _ _ _ _ (Usage c.in-Usage.text) before (refl, refl, refl) (λ r. refl) (omega arith) (omega arith) given_up.status (record { begun = given_up.prefix; whole = given_up.whole }))

pub returns : goal.returns
returns g c =
    let before = stream (g.E.Sink.taken c.args.err.now) (g.E.Sink.failures c.args.err.now) in
    let given_up = c.report_failure-in-NoMemory.ensures in
    rw c.in-NoMemory.is (failure_ended parsed.NoMemory _ _ before _ _ _ _ _ _ NoMemory before (refl, refl, refl) (λ r. refl) (omega arith) (omega arith) given_up.status (record { begun = given_up.prefix; whole = given_up.whole }))
