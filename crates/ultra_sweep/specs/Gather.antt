-- the results of the jobs below a number n, put together; this project's profile
use Rattle.std.specs.Prelude.{◌≡◌, ◌<◌, ◌≤◌, ℕ, List, [], ◌∷◌, ◌++◌, All, Some, None, IsSome, Contains, length, slice_index_or, ⊤}
use Rattle.ultra_board.specs.View.{times, times_below}
use Rattle.ultra_sweep.specs.{declared.{job.JobResult.JobResult, gathering.GatherFault.{GatherFault, TheVariants.{Double, Stranger, Missing, NoMemory}}}, Job.{job_numbers, text_in}}

-- every job below n is named once, and no other number is named
abbrev pub NamesEachOnce : ℕ → List JobResult → Type 0
NamesEachOnce n results = (i : ℕ) → times i (job_numbers results) ≡ times_below i n

-- one of the results is that of job i, with this text
pub record HasText (results : List JobResult) (i : ℕ) (t : List ℕ) : Type 0 where
  pub result : JobResult
  pub there : Contains results result
  pub number : result.number ≡ i
  pub text : text_in result.outcome ≡ Some t

-- the texts are those of all jobs below n, in order
pub record AreGathered (n : ℕ) (results : List JobResult) (ts : List (List ℕ)) : Type 0 where
  pub once : NamesEachOnce n results
  pub count : length ts ≡ n
  pub texts : (i : ℕ) → i < n → HasText results i (slice_index_or ts i [])

-- no job is named twice, each number is below n, and each result has a text
pub record AreSound (n : ℕ) (results : List JobResult) : Type 0 where
  pub within : (i : ℕ) → times i (job_numbers results) ≤ times_below i n
  pub texts : All (λ r. IsSome (text_in r.outcome)) results

-- these results are sound, and the next one names job i
pub record IsNext (n : ℕ) (results : List JobResult) (i : ℕ)
    (before : List JobResult) : Type 0 where
  pub sound : AreSound n before
  pub result : JobResult
  pub number : result.number ≡ i
  pub rest : List JobResult
  pub there : before ++ result ∷ rest ≡ results

-- these results are sound, and the next one says that memory was refused to job i
pub record IsRefused (n : ℕ) (results : List JobResult) (i : ℕ)
    (before : List JobResult) : Type 0 where
  pub next : IsNext n results i before
  pub below : i < n
  pub new : times i (job_numbers before) ≡ 0
  pub no_text : text_in next.result.outcome ≡ None

-- the results are sound, and job i is the first that none names
pub record IsFirstMissingJob (n : ℕ) (results : List JobResult) (i : ℕ) : Type 0 where
  pub sound : AreSound n results
  pub below : i < n
  pub missing : times i (job_numbers results) ≡ 0
  pub first : (k : ℕ) → k < i → times k (job_numbers results) ≡ 1

-- why there is not one result for each job
abbrev pub ExplainsGatherFault : ℕ → List JobResult → GatherFault → Type 0
ExplainsGatherFault n results (Double i) =
    (before : List JobResult) × IsNext n results i before × (times i (job_numbers before) ≡ 1)
ExplainsGatherFault n results (Stranger i) =
    (before : List JobResult) × IsNext n results i before × (n ≤ i)
ExplainsGatherFault n results (Missing i) = IsFirstMissingJob n results i
ExplainsGatherFault n results NoMemory = ⊤

-- the same where there is memory to put them together: `NoMemory` comes just where it was refused
-- to a job
abbrev pub ExplainsEnd : ℕ → List JobResult → GatherFault → Type 0
ExplainsEnd n results (Double i) = ExplainsGatherFault n results (Double i)
ExplainsEnd n results (Stranger i) = ExplainsGatherFault n results (Stranger i)
ExplainsEnd n results (Missing i) = ExplainsGatherFault n results (Missing i)
ExplainsEnd n results NoMemory = (i : ℕ) × (before : List JobResult) × IsRefused n results i before
