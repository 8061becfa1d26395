-- what a file of jobs and the files that it names give; this project's profile
use Rattle.std.specs.Prelude.{◌≡◌, ℕ, List, [], ◌∷◌, ◌++◌, ⊤}
use Rattle.ultra_io.specs.Source.{File}
use Rattle.ultra_settings.specs.declared.jobs.JobsFault.TheVariants as jobs_fault
use Rattle.ultra_settings.specs.JobsText.{Paths}
use Rattle.ultra_settings.specs.JobsText as jobs_text
use Rattle.ultra_inputs.specs.{declared.failure.Failure.{Failure, TheVariants.{NotToml, BadJob, NoMemory}}, Inputs.{Gave, GaveNothing}}
use Rattle.ultra_sweep.specs.declared.job.Job.{Job}

-- why the text of a file lists no jobs
abbrev pub ExplainsJobs : List ℕ → List ℕ → Failure → Type 0
ExplainsJobs path text (NotToml p) =
    (p.now ≡ path) × jobs_text.ExplainsJobsFault text jobs_fault.NotToml
ExplainsJobs path text (BadJob p) =
    (p.now ≡ path) × jobs_text.ExplainsJobsFault text jobs_fault.BadJob
ExplainsJobs path text NoMemory = ⊤
ExplainsJobs path text _ = ⊥

-- the two files of each job were read, job after job, and they give these jobs
abbrev pub GaveJobs : List Paths → List File → List File → List Job → Type 0
GaveJobs [] old new [] = new ≡ old
GaveJobs [] old new (job ∷ jobs) = ⊥
GaveJobs (p ∷ ps) old new [] = ⊥
GaveJobs (p ∷ ps) old new (job ∷ jobs) =
    (mid : List File) × Gave p.0 p.1 old mid job.config job.program × GaveJobs ps mid new jobs

-- why they don't: the files of the jobs before one were accepted, and one of its files wasn't
pub data GaveNoJobs (paths : List Paths) (old new : List File) (f : Failure) : Type 0 where
  no_room : f ≡ NoMemory → new ≡ old → GaveNoJobs paths old new f
  refused : (before rest : List Paths) (it : Paths) (jobs : List Job) (mid : List File)
      → before ++ it ∷ rest ≡ paths → GaveJobs before old mid jobs → GaveNothing it.0 it.1 mid new f
      → GaveNoJobs paths old new f
