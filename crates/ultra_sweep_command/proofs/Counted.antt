-- a failure that isn't one of standard output, and that none has the status 0
use Rattle.std.proofs.Common.{◌≡◌, ℕ, List, refl}
use Rattle.ultra_io.specs.Source.{File}
use Rattle.ultra_inputs.specs.{declared.failure.Failure.Failure, Failure.{status_of, write_failures}, Inputs.{IsUnread, FileGaveNothing, not_had, not_accepted}}
use Rattle.ultra_inputs.specs.declared.failure.Failure.TheVariants.{Usage, ArgumentsNotUtf8, NotRead, NotToml, BadField, UnknownKey, NotUtf8, BadProgramLine, BadJob, NotAnEntry, BadPe, NotFenced, NotLegal, BadParameter, NoMemory, NoThread, HeapTooSmall, HeapFull, NotWritten}
use Rattle.ultra_inputs.proofs.Endings.{ends}
use Rattle.ultra_sweep_command.specs.Jobs.{ExplainsJobs}

-- what can't be a failed write counts none
none : (P : Failure → Type 0) → ¬ P NotWritten → (f : Failure) → P f → write_failures f ≡ 0
none P never (Usage t) e = refl
none P never ArgumentsNotUtf8 e = refl
none P never (NotRead p) e = refl
none P never (NotToml p) e = refl
none P never (BadField p f) e = refl
none P never (UnknownKey p) e = refl
none P never (NotUtf8 p) e = refl
none P never (BadProgramLine p l k) e = refl
none P never (BadJob p) e = refl
none P never (NotAnEntry p l) e = refl
none P never (BadPe p l) e = refl
none P never (NotFenced p k) e = refl
none P never NotLegal e = refl
none P never BadParameter e = refl
none P never NoMemory e = refl
none P never NoThread e = refl
none P never HeapTooSmall e = refl
none P never HeapFull e = refl
none P never NotWritten e = absurd (never e)

-- a file of jobs that isn't had
pub unlisted_none : (path : List ℕ) (old new : List File) (f : Failure) → FileGaveNothing ExplainsJobs path old new f → write_failures f ≡ 0
unlisted_none path old new f (not_had why same) = none (λ g. IsUnread path g) (λ e. e) f why
unlisted_none path old new f (not_accepted text why files) = none (λ g. ExplainsJobs path text g) (λ e. e) f why

pub never_done : (f : Failure) → ¬ status_of f ≡ 0
never_done f = (ends f).bad
