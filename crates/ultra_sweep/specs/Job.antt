-- jobs and their results; this project's profile
use Rattle.std.specs.Prelude.{◌≡◌, ◌<◌, ℕ, List, map, length, Option, Some, None, IfSome, slice_get, ⊤}
use Rattle.std.specs.List.{enumerate_from}
use Rattle.ultra_model.specs.Trace.{trace}
use Rattle.ultra_sweep.specs.declared.job.{Job.Job, JobResult.JobResult, JobOutcome.{JobOutcome, TheVariants.{Text, NoMemory}}}

-- the trace of a job's run
abbrev pub trace_of : Job → List ℕ
trace_of job = trace job.config job.program

-- what became of a job that gives a text: the text, or nothing is known of it
abbrev pub IsOutcomeOf : List ℕ → JobOutcome → Type 0
IsOutcomeOf given (Text text) = text.items ≡ given
IsOutcomeOf given NoMemory = ⊤

-- where a job gives a text by its number
module _ (text : ℕ → Job → List ℕ) where
  -- a result names its job, and holds what became of it
  pub record IsResultOf (i : ℕ) (job : Job) (result : JobResult) : Type 0 where
    pub number : result.number ≡ i
    pub outcome : IsOutcomeOf (text i job) result.outcome

  -- a result of one of these jobs, the one at the place that it names
  pub record IsResultAmong (jobs : List Job) (result : JobResult) : Type 0 where
    pub named : result.number < length jobs
    pub outcome : IfSome (slice_get jobs result.number)
        (λ job. IsOutcomeOf (text result.number job) result.outcome)

  -- the texts of all jobs, in order
  abbrev pub texts_of : List Job → List (List ℕ)
  texts_of jobs = map (λ it. text it.0 it.1) (enumerate_from 0 jobs)

-- the numbers of the jobs that results name
abbrev pub job_numbers : List JobResult → List ℕ
job_numbers results = map (λ r. r.number) results

-- the text of a job that has one
abbrev pub text_in : JobOutcome → Option (List ℕ)
text_in (Text text) = Some text.items
text_in NoMemory = None
