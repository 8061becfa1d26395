-- the rows of requests cycle by cycle, as they are written
use Rattle.std.specs.{Prelude.{ℕ, ◌+◌, List, [], ◌∷◌}, List.{flat_map, range_with_len}}
use Rattle.ultra_msg.specs.declared.Event.{Event, TheVariants.{Delivered, Served, Combined, Issued}}
use Rattle.ultra_isa.specs.declared.Instr.{Instr}
use Rattle.ultra_model.specs.{Machine.{Settings, size}, Phases.after, Trace.cycle_count}
use Rattle.ultra_serial_law.specs.{declared.records.{LoggedIssue.LoggedIssue, LoggedAnswer.LoggedAnswer}, Log.{Log, latest_number}, SerialList.history}
use Rattle.ultra_requests.specs.RequestTable.{answered_rows, row_line, waiting_rows}

-- the answer that an event of a cycle logs, after these issues
abbrev pub answer_in : ℕ → List LoggedIssue → Event → List LoggedAnswer
answer_in cycle issues (Delivered r) =
    record {
      pe = r.pe;
      number = latest_number r.pe r.cell issues 0;
      reply = r.reply;
      cycle = cycle;
    } ∷ []
answer_in cycle issues (Served k r v now) = []
answer_in cycle issues (Combined s x a old new first) = []
answer_in cycle issues (Issued r n) = []

module _ (c : Settings) (program : List Instr) where
  abbrev pub log_after : ℕ → Log
  log_after n = (history c program n).log

  abbrev pub answers_of_cycle : ℕ → List LoggedAnswer
  answers_of_cycle n =
      flat_map (answer_in n (log_after n).issues) (after c program (n + 1)).events

  -- the rows of the answers of cycle n, by the issues before it, and those without an answer
  unfoldable pub rows_of_cycle : ℕ → List ℕ
  rows_of_cycle n = flat_map row_line (answered_rows (log_after n).issues (answers_of_cycle n))

  unfoldable pub rows_at_end : List ℕ
  rows_at_end =
      let l = log_after (cycle_count c program) in
      flat_map row_line (flat_map (waiting_rows l) (range_with_len 0 (size c)))
