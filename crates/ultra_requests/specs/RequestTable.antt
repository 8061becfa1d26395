-- the requests of a run as a table in CSV; this project's profile
use Rattle.std.specs.Prelude.{ℕ, List, [], ◌∷◌, ◌++◌, Bool, not, ◌&&◌, ◌==◌, map, Option, Some, None, option_to_list, codes, decimal}
use Rattle.std.specs.List.{filter, find, flat_map, list_any, range_with_len}
use Rattle.ultra_msg.specs.declared.Op.{Op, TheVariants.{Load, Store, Faa, Swap}}
use Rattle.ultra_isa.specs.declared.Instr.{Instr}
use Rattle.ultra_model.specs.{Machine.{Settings, size}, Text.{newline, reply_text}, Trace.cycle_count}
use Rattle.ultra_serial_law.specs.{declared.records.{LoggedIssue.LoggedIssue, LoggedAnswer.LoggedAnswer}, Log.Log, SerialList.history}

-- a row: an issue, and its answer where it has one
pub record Row : Type 0 where
  pub issue : LoggedIssue
  pub answer : Option LoggedAnswer

-- ---- the rows of a log
-- whether an issue and an answer have one name
abbrev pub is_answer_to : LoggedIssue → LoggedAnswer → Bool
is_answer_to i a = (i.pe == a.pe) && (i.number == a.number)

abbrev pub is_answered : List LoggedAnswer → LoggedIssue → Bool
is_answered answers i = list_any (is_answer_to i) answers

-- the issue of an answer's name, with the answer
abbrev pub answered_row : List LoggedIssue → LoggedAnswer → List Row
answered_row issues a =
    map (λ i. record { issue = i; answer = Some a })
    (option_to_list (find (λ i. is_answer_to i a) issues))

-- a row for each answer, in the log's order
abbrev pub answered_rows : List LoggedIssue → List LoggedAnswer → List Row
answered_rows issues answers = flat_map (answered_row issues) answers

-- the issues of processing element p that aren't answered
abbrev pub waiting : Log → ℕ → List LoggedIssue
waiting l p = filter (λ i. not (is_answered l.answers i)) (filter (λ i. i.pe == p) l.issues)

abbrev pub waiting_rows : Log → ℕ → List Row
waiting_rows l p = map (λ i. record { issue = i; answer = None }) (waiting l p)

-- the answered ones, then those without an answer, of n processing elements by number
abbrev pub request_rows : ℕ → Log → List Row
request_rows n l =
    answered_rows l.issues l.answers ++ flat_map (waiting_rows l) (range_with_len 0 n)

-- ---- as text
abbrev pub header_line : List ℕ
header_line = codes "pe,number,op,cell,word,issued,answered,reply" ++ newline

-- the name of an operation, and its word
abbrev pub op_name : Op → List ℕ
op_name Load = codes "load"
op_name (Store w) = codes "store"
op_name (Faa w) = codes "faa"
op_name (Swap w) = codes "swap"

abbrev pub word_text : Op → List ℕ
word_text Load = []
word_text (Store w) = decimal w
word_text (Faa w) = decimal w
word_text (Swap w) = decimal w

abbrev pub issue_text : LoggedIssue → List ℕ
issue_text i =
    decimal i.pe ++ codes "," ++ decimal i.number ++ codes "," ++ op_name i.op ++ codes ","
    ++ decimal i.cell ++ codes "," ++ word_text i.op ++ codes "," ++ decimal i.cycle

abbrev pub answer_text : Option LoggedAnswer → List ℕ
answer_text None = codes ","
answer_text (Some a) = decimal a.cycle ++ codes "," ++ reply_text a.reply

abbrev pub row_line : Row → List ℕ
row_line r = issue_text r.issue ++ codes "," ++ answer_text r.answer ++ newline

-- of a whole run
unfoldable pub requests_of : Settings → List Instr → List ℕ
requests_of c program =
    header_line
    ++ flat_map row_line (request_rows (size c) (history c program (cycle_count c program)).log)
