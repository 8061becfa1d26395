-- how the measures of a run are written
use Rattle.std.specs.Prelude.{ℕ, ◌+◌, ◌-◌, ◌*◌, ◌/◌, ◌≤◌, List, [], ◌∷◌, ◌++◌, Bool, true, false, min, Option, Some, None, codes, decimal, nat_lt, if◌then◌else◌}
use Rattle.std.specs.List.{flat_map, join_by, range_with_len}
use Rattle.ultra_isa.specs.declared.Instr.{Instr}
use Rattle.ultra_model.specs.{Machine.Settings, Text.newline, Trace.by_number}
use Rattle.ultra_trace_alone.specs.RunText.{cycles_until}
use Rattle.ultra_measure.specs.{declared.measuring.Layout.{Layout, TheVariants.{Lines, Table, JobRows}}, Columns.{Column, of_stage, measures}}

-- a line for each measure that has a value
abbrev pub line_if : List ℕ → Option (List ℕ) → List ℕ
line_if name None = []
line_if name (Some text) = name ++ codes " " ++ text ++ newline

abbrev pub measure_lines : List Column → List ℕ
measure_lines cs = flat_map (λ (i : Column). line_if i.0 i.1) cs

-- the names on one line, and the values on one, where one that isn't there is empty
abbrev pub text_if : Option (List ℕ) → List ℕ
text_if None = []
text_if (Some text) = text

abbrev pub names_line : List Column → List ℕ
names_line cs = join_by (λ (i : Column). i.0) (codes ",") cs ++ newline

abbrev pub values_line : List Column → List ℕ
values_line cs = join_by (λ (i : Column). text_if i.1) (codes ",") cs ++ newline

-- the values of a window of a job of a sweep
abbrev pub job_values_line : ℕ → List Column → List ℕ
job_values_line job cs = decimal job ++ codes "," ++ values_line cs

-- the names of all measures of a stage, each behind a comma
abbrev pub stage_names : ℕ → List ℕ
stage_names s =
    flat_map (λ name. codes "," ++ of_stage name s) (codes "combined"
    ∷ codes "request_queue_sum" ∷ codes "request_queue_most"
    ∷ codes "reply_queue_sum" ∷ codes "reply_queue_most"
    ∷ codes "records_sum" ∷ codes "records_most" ∷ codes "full_waits" ∷ [])

-- the names of all measures of any run, on one line
unfoldable pub all_names : List ℕ
all_names =
    codes "stages,pes,request_places,reply_places,wait_places,open,cells,from,to,end"
    ++ codes ",issued,answered,acts,combined,faults,acts_most"
    ++ codes ",latency_least,latency_greatest,latency_mean"
    ++ codes ",running_sum,stalled_sum,open_sum,pni_sum,pni_most,inp_sum,out_sum"
    ++ flat_map stage_names (range_with_len 0 6) ++ newline

-- the cycles of a run from one to another, both included, as far as the run has them
module _ (c : Settings) (program : List Instr) (from to : ℕ) where
  -- the cycle behind the last of them
  abbrev pub windows_end : ℕ
  windows_end = cycles_until c program to

  -- the one window of all of them, as lines
  unfoldable pub measure_text : List ℕ
  measure_text =
      if nat_lt from windows_end then measure_lines (measures c program from windows_end) else []

  -- the windows of e cycles each; the last may be shorter
  abbrev pub window_of : ℕ → ℕ → List Column
  window_of e k = measures c program (from + k * e) (min (from + (k + 1) * e) windows_end)

  abbrev pub window_count : ℕ → ℕ
  window_count e = (windows_end - from + e - 1) / e

  -- as a table
  unfoldable pub measure_table : ℕ → List ℕ
  measure_table e =
      names_line (window_of e 0) ++ by_number (window_count e) (λ k. values_line (window_of e k))

  -- as the rows that the run has in a table of several jobs
  unfoldable pub job_rows : ℕ → ℕ → List ℕ
  job_rows job e = by_number (window_count e) (λ k. job_values_line job (window_of e k))

-- ---- as they are asked for
-- each window has a cycle
abbrev pub HasWindows : Layout → Type 0
HasWindows Lines = Unit {0}
HasWindows (Table e) = 1 ≤ e
HasWindows (JobRows job e) = 1 ≤ e

-- of the cycles from one to another
abbrev pub measured : Settings → List Instr → ℕ → ℕ → Layout → List ℕ
measured c program from to Lines = measure_text c program from to
measured c program from to (Table e) = measure_table c program from to e
measured c program from to (JobRows job e) = job_rows c program from to job e

-- whether a run was quiet at its end, where it ends: with the machine quiet, or with the last cycle
-- that the settings allow
abbrev pub end_if : Bool → Bool → Option Bool
end_if true last = Some true
end_if false true = Some false
end_if false false = None
