-- what a sweep writes of its jobs; this project's profile
use Rattle.std.specs.Prelude.{ℕ, List, map, Option, Some, None}
use Rattle.ultra_measure.specs.Texts.{all_names, job_rows}
use Rattle.ultra_args.specs.declared.sweep_output.SweepOutput.{SweepOutput, TheVariants.{Report, Measures}}
use Rattle.ultra_sweep.specs.{declared.job.Job.Job, Job.{trace_of, texts_of}, Report.{report_text, table_text}}

-- how many cycles a window has; where no number is given, as many as a run may have
abbrev pub window_cycles : Option ℕ → ℕ
window_cycles None = 1000000
window_cycles (Some every) = every

-- what a job gives: its trace, or the rows of its measures
abbrev pub job_output : SweepOutput → ℕ → Job → List ℕ
job_output Report number job = trace_of job
job_output (Measures every from to) number job =
    job_rows job.config job.program from to number (window_cycles every)

-- for each job in order the line `job I`, and its trace
abbrev pub report_of : List Job → List ℕ
report_of jobs = report_text (map trace_of jobs)

-- the report, or the table of the measures of all jobs
abbrev pub swept_text : SweepOutput → List Job → List ℕ
swept_text Report jobs = report_of jobs
swept_text (Measures every from to) jobs =
    table_text all_names (texts_of (job_output (Measures every from to)) jobs)
