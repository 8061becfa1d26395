-- the texts that jobs give to a report
use Rattle.std.proofs.Common.{◌≡◌, ◌+◌, ℕ, List, [], ◌∷◌, map, refl, ap}
use Rattle.std.specs.List.{enumerate_from}
use Rattle.ultra_sweep.specs.{declared.job.Job.Job, Job.trace_of}

-- a trace doesn't depend on the job's number
pub traces_are : (jobs : List Job) (n : ℕ) → map (λ (it : ℕ × Job). trace_of it.1) (enumerate_from n jobs) ≡ map trace_of jobs
traces_are [] n = refl
traces_are (job ∷ jobs) n = ap (λ ts. trace_of job ∷ ts) (traces_are jobs (n + 1))
