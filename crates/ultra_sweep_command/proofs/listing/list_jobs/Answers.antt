use Rattle.std.proofs.{Common.{◌≡◌, ◌++◌, ◌∷◌, []}, lemmas.Result.IfErr-weaker}
use Rattle.ultra_io.specs.Source.{file_of}
use Rattle.ultra_inputs.specs.Inputs.{FileGaveNothing, not_accepted}
use Rattle.ultra_sweep_command.specs.Jobs.{ExplainsJobs}
use Rattle.ultra_sweep_command.proofs.listing.list_jobs.Goals as goal

pub returns-clause-err : goal.returns-clause-err
returns-clause-err g c =
    let path = c.args.path.now in
    let text = c.as_slice.result.now in
    let old = g.F.Source.files c.args.source.now in
    let new = g.F.Source.files c.read_file.new.source in
    let files : new ≡ old ++ file_of path text ∷ [] = rw c.as_slice.ensures.value c.in_ok-text.ensures.ok in
    IfErr-weaker c.accept_jobs.result (ExplainsJobs path text) (FileGaveNothing ExplainsJobs path old new) (λ f why. not_accepted text why files) c.accept_jobs.ensures.err
