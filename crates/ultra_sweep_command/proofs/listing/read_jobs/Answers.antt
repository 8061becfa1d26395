-- the files of each job in turn
use Rattle.std.proofs.Common.{◌∙◌, ◌+◌, ◌∷◌, [], ap, sym, subst, take, length, arith, length-append}
use Rattle.std.proofs.lemmas.Result.{err_from_is_err_and}
use Rattle.ultra_settings.specs.JobsText.{all_paths}
use Rattle.ultra_sweep.specs.declared.job.Job.{Job}
use Rattle.ultra_sweep_command.specs.Jobs.{GaveJobs}
use Rattle.ultra_sweep_command.proofs.Reading.{gave-next, refused-next}
use Rattle.ultra_sweep_command.proofs.listing.read_jobs.Goals as goal

pub returns-in_err-inputs-clause-err : goal.returns-in_err-inputs-clause-err
returns-in_err-inputs-clause-err g c =
    let p = err_from_is_err_and c.from_residual-in_err-inputs.result c.from_residual-in_err-inputs.ensures.1 in
    let it = c.loop-settings-item in
    let so_far = c.loop-settings.invariant in
    rw (p.1, p.2) (refused-next c.args.list.now c.loop-settings.settings-index it.result c.loop-settings-test.true it.is c.as_str.result.now c.as_str-in-loop-settings.result.now c.as_str.ensures.value c.as_str-in-loop-settings.ensures.value c.loop-settings.jobs.items (g.F.Source.files c.args.source.now) (g.F.Source.files c.loop-settings.source) (g.F.Source.files c.read_inputs.new.source) c.in_err-inputs.field-0.0 so_far.gave c.in_err-inputs.ensures.err)

pub loop-settings-preserved : goal.loop-settings-preserved
loop-settings-preserved g c =
    let so_far = c.loop-settings.invariant in
    let it = c.loop-settings-item in
    let inputs = c.in_ok-inputs.inputs in
    let job : Job = record { config = inputs.config; program = inputs.program } in
    let old = g.F.Source.files c.args.source.now in
    let new = g.F.Source.files c.read_inputs.new.source in
    let longer = ap length c.push_reserved.ensures.items ∙ length-append c.loop-settings.jobs.items (job ∷ []) in
    let count = so_far.count in
    let same = c.push_reserved.ensures.capacity in
    let room = so_far.room in
    record {
      gave = subst (λ jobs. GaveJobs (all_paths (take (c.loop-settings.settings-index + 1) c.args.list.now)) old new jobs) (sym c.push_reserved.ensures.items)
          (gave-next c.args.list.now c.loop-settings.settings-index it.result c.loop-settings-test.true it.is c.as_str.result.now c.as_str-in-loop-settings.result.now c.as_str.ensures.value c.as_str-in-loop-settings.ensures.value c.loop-settings.jobs.items old (g.F.Source.files c.loop-settings.source) new job so_far.gave c.in_ok-inputs.ensures.ok);
      still = c.in_ok-inputs.ensures.still ∙ so_far.still;
      count = omega arith;
      room = omega arith;
    }
