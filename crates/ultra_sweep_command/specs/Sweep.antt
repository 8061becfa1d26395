-- what a sweep reads, writes and shows; this project's profile
use Rattle.std.specs.Prelude.{◌≡◌, ◌≢◌, ◌+◌, ℕ, ◌⊎◌, Bool, true, List, [], ◌∷◌, ◌++◌, length}
use Rattle.ultra_msg.specs.Bytes.{TakesPrefix}
use Rattle.ultra_io.specs.{Account.SinkState, Source.file_of}
use Rattle.ultra_settings.specs.JobsText.{Paths, Gives}
use Rattle.ultra_args.specs.declared.sweep_output.SweepOutput.{SweepOutput}
use Rattle.ultra_inputs.specs.{declared.failure.Failure.{Failure, TheVariants.{NoMemory, NoThread, NotWritten}}, Failure.{status_of, read_failures}, Inputs.FileGaveNothing, Traffic.{Traffic, with_files}, Shown.IsReported}
use Rattle.ultra_sweep.specs.declared.job.Job.{Job}
use Rattle.ultra_sweep_command.specs.{declared.fault.SweepFault.SweepFault, Jobs.{ExplainsJobs, GaveJobs, GaveNoJobs}, Output.swept_text, Shown.IsProgressShown}
use Rattle.ultra_sweep_command.specs.declared.fault.SweepFault.TheVariants as fault

-- what a fault of the threads is for the command
abbrev pub failure_of : SweepFault → Failure
failure_of fault.NoMemory = NoMemory
failure_of fault.NoThread = NoThread

-- a sweep by n workers starts threads: the caller is one of them, unless it watches for progress
abbrev pub StartsThreads : ℕ → Bool → Type 0
StartsThreads workers progress = (progress ≡ true) ⊎ (workers ≢ 1)

-- why nothing is written of jobs that were read
abbrev pub StopsJobs : ℕ → Bool → Failure → Type 0
StopsJobs workers progress f =
    (f ≡ NoMemory) ⊎ ((f ≡ NoThread) × StartsThreads workers progress)

-- the jobs at these paths were read, the output was written of them, and the last count shown is
-- that of all jobs
pub record SweptJobs (paths : List Paths) (output : SweepOutput) (progress : Bool)
    (old new : Traffic) (before after : SinkState) : Type 0 where
  pub jobs : List Job
  pub gave : GaveJobs paths old.files new.files jobs
  pub written : new.written ≡ old.written ++ swept_text output jobs
  pub shown : IsProgressShown progress (length jobs) (length jobs) before after

-- how that fails, by n workers: all files are accepted before a byte is written, and all jobs are
-- run. So the output is not begun, or the last count shown is that of all jobs and the output is cut
pub data JobsFail (paths : List Paths) (workers : ℕ) (output : SweepOutput) (progress : Bool)
    (old new : Traffic) (before after : SinkState) (f : Failure) : Type 0 where
  refused : GaveNoJobs paths old.files new.files f → new.written ≡ old.written → after ≡ before
      → JobsFail paths workers output progress old new before after f
  not_run : (jobs : List Job) (last : ℕ) → GaveJobs paths old.files new.files jobs
      → StopsJobs workers progress f → new.written ≡ old.written
      → IsProgressShown progress (length jobs) last before after
      → JobsFail paths workers output progress old new before after f
  unwritten : (jobs : List Job) → GaveJobs paths old.files new.files jobs → f ≡ NotWritten
      → TakesPrefix (swept_text output jobs) old.written new.written
      → IsProgressShown progress (length jobs) (length jobs) before after
      → JobsFail paths workers output progress old new before after f

-- a file of jobs was read, and its jobs were swept
pub record Swept (path : List ℕ) (output : SweepOutput) (progress : Bool)
    (old new : Traffic) (before after : SinkState) : Type 0 where
  pub text : List ℕ
  pub paths : List Paths
  pub listed : Gives text paths
  pub swept : SweptJobs paths output progress (with_files old (file_of path text ∷ [])) new
      before after

-- how that fails, by n workers: the file is accepted before those that it names are read
pub data SweepFails (path : List ℕ) (workers : ℕ) (output : SweepOutput) (progress : Bool)
    (old new : Traffic) (before after : SinkState) (f : Failure) : Type 0 where
  unlisted : FileGaveNothing ExplainsJobs path old.files new.files f → new.written ≡ old.written
      → after ≡ before → SweepFails path workers output progress old new before after f
  listed : (text : List ℕ) (paths : List Paths) → Gives text paths
      → JobsFail paths workers output progress (with_files old (file_of path text ∷ [])) new before
      after f
      → SweepFails path workers output progress old new before after f

-- a sweep by n workers ended with this status: it failed so, and the failure was reported after what
-- was shown. The source of files has failed in it as often as the failure says
pub record HasFailed (path : List ℕ) (workers : ℕ) (output : SweepOutput) (progress : Bool)
    (old new : Traffic) (before after : SinkState)
    (source_failures source_failures_after status : ℕ) : Type 0 where
  pub failure : Failure
  pub shown : SinkState
  pub same_status : status_of failure ≡ status
  pub why : SweepFails path workers output progress old new before shown failure
  pub report : IsReported failure shown after
  pub read_counted : source_failures_after ≡ source_failures + read_failures failure
