-- the forms in which the measures of a window are written
use Rattle.std.specs.Prelude.{ℕ, List, [], ◌++◌, Bool, Option, Some, None, codes, decimal}
use Rattle.std.specs.List.{flat_map}
use Rattle.ultra_model.specs.Text.{newline}
use Rattle.ultra_measure.specs.{declared.columns.{Form.{Form, TheVariants.{Lines, Values, JobValues}}, Value.{Value, TheVariants.{Number, Thousandths, Ended}}}, Columns.{Column, of_stage, thousandths_text, end_word}, Texts.{line_if, text_if, measure_lines, values_line, job_values_line}}

-- the text of a value, where there is one
abbrev pub value_text : Value → List ℕ
value_text (Number n) = decimal n
value_text (Thousandths t) = thousandths_text t
value_text (Ended quiet) = end_word quiet

abbrev pub value_if : Option Value → Option (List ℕ)
value_if None = None
value_if (Some v) = Some (value_text v)

-- how a run ended, where it did
abbrev pub ended_if : Option Bool → Option (List ℕ)
ended_if None = None
ended_if (Some quiet) = Some (end_word quiet)

-- the name of a measure, where it is of a stage with the stage
abbrev pub name_text : List ℕ → Option ℕ → List ℕ
name_text name None = name
name_text name (Some s) = of_stage name s

-- what is written of a column that comes after others
abbrev pub column_text : Form → Column → List ℕ
column_text Lines i = line_if i.0 i.1
column_text Values i = codes "," ++ text_if i.1
column_text (JobValues job) i = codes "," ++ text_if i.1

-- of the first one
abbrev pub first_text : Form → Column → List ℕ
first_text Lines i = line_if i.0 i.1
first_text Values i = text_if i.1
first_text (JobValues job) i = decimal job ++ codes "," ++ text_if i.1

abbrev pub columns_text : Form → List Column → List ℕ
columns_text form cs = flat_map (column_text form) cs

-- what ends a row
abbrev pub row_end : Form → List ℕ
row_end Lines = []
row_end Values = newline
row_end (JobValues job) = newline

-- of a whole window
abbrev pub row_text : Form → List Column → List ℕ
row_text Lines cs = measure_lines cs
row_text Values cs = values_line cs
row_text (JobValues job) cs = job_values_line job cs
