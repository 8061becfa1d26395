-- what is written of all jobs of a sweep; this project's profile
use Rattle.std.specs.Prelude.{ℕ, ◌+◌, List, [], ◌∷◌, ◌++◌, codes, decimal}
use Rattle.ultra_sweep.specs.declared.reporting.JobForm.{JobForm, TheVariants.{Numbered, Plain}}

-- the line that names a job, and its trace
abbrev pub job_text : ℕ → List ℕ → List ℕ
job_text number text = codes "job " ++ decimal number ++ codes "\n" ++ text

-- how the text of a job is written: as in the report, or as it is
abbrev pub text_as : JobForm → ℕ → List ℕ → List ℕ
text_as Numbered number text = job_text number text
text_as Plain number text = text

-- the jobs from this number on
abbrev pub texts_from : (ℕ → List ℕ → List ℕ) → ℕ → List (List ℕ) → List ℕ
texts_from written number [] = []
texts_from written number (text ∷ texts) =
    written number text ++ texts_from written (number + 1) texts

abbrev pub report_text : List (List ℕ) → List ℕ
report_text texts = texts_from (text_as Numbered) 0 texts

-- the names of all columns, and the rows of all jobs
abbrev pub table_text : List ℕ → List (List ℕ) → List ℕ
table_text names texts = codes "job," ++ names ++ texts_from (text_as Plain) 0 texts
