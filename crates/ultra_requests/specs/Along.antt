-- what is written of events in their order, as the open requests change with them
use Rattle.std.specs.Prelude.{ℕ, List, [], ◌∷◌, ◌++◌, Option, Some, None, length, ◌<◌}
use Rattle.std.specs.List.{flat_map}
use Rattle.ultra_msg.specs.declared.{ReplyMessage.ReplyMessage, Event.{Event, TheVariants.{Delivered, Served, Combined, Issued}}}
use Rattle.ultra_model.specs.Trace.{by_number}
use Rattle.ultra_serial_law.specs.declared.records.LoggedIssue.{LoggedIssue}
use Rattle.ultra_latency.specs.{declared.open.OpenRequest.OpenRequest, Open.{answered_at, request_for, row, rows_with}}
use Rattle.ultra_requests.specs.{EventLines.event_line, RequestTable.row_line}

-- an open request of processing element p, as the log has it
abbrev pub logged_issue : ℕ → OpenRequest → LoggedIssue
logged_issue p o = record { pe = p; number = o.number; cell = o.cell; op = o.op; cycle = o.cycle }

-- the number of an open request, if it is there
abbrev pub number_if_open : Option OpenRequest → ℕ
number_if_open None = 0
number_if_open (Some o) = o.number

abbrev pub number_in_rows : List (List OpenRequest) → ℕ → ℕ → ℕ
number_in_rows rows p a = number_if_open (request_for a (row rows p))

-- the line of an event, and the row of a delivery
abbrev pub event_line_at : ℕ → List (List OpenRequest) → Event → List ℕ
event_line_at cycle rows e = event_line (number_in_rows rows) cycle e

abbrev pub answer_if : ℕ → ReplyMessage → Option OpenRequest → List ℕ
answer_if cycle r None = []
answer_if cycle r (Some o) =
    row_line record {
      issue = logged_issue r.pe o;
      answer = Some record { pe = r.pe; number = o.number; reply = r.reply; cycle = cycle };
    }

abbrev pub answered_line : ℕ → Event → Option OpenRequest → List ℕ
answered_line cycle (Delivered r) o = answer_if cycle r o
answered_line cycle (Served k r v now) o = []
answered_line cycle (Combined s x a old new first) o = []
answered_line cycle (Issued r n) o = []

abbrev pub row_at : ℕ → List (List OpenRequest) → Event → List ℕ
row_at cycle rows e = answered_line cycle e (answered_at rows e)

-- the row of an open request, and those of the processing elements from 0 on
abbrev pub waiting_line : ℕ → OpenRequest → List ℕ
waiting_line p o = row_line record { issue = logged_issue p o; answer = None }

abbrev pub waiting_text : ℕ → List OpenRequest → List ℕ
waiting_text p os = flat_map (waiting_line p) os

abbrev pub waiting_all : ℕ → List (List OpenRequest) → List ℕ
waiting_all n rows = by_number n (λ p. waiting_text p (row rows p))

-- of several
abbrev pub along : (ℕ → List (List OpenRequest) → Event → List ℕ) → ℕ
    → List (List OpenRequest) → List Event → List ℕ
along show cycle rows [] = []
along show cycle rows (e ∷ es) =
    show cycle rows e ++ along show cycle (rows_with cycle rows e) es

-- each request that an event names is of a processing element that has a row
abbrev pub HasRows : List (List OpenRequest) → Event → Type 0
HasRows rows (Delivered r) = r.pe < length rows
HasRows rows (Served k r v now) = r.pe < length rows
HasRows rows (Combined s x a old new first) = (old < length rows) × (new < length rows)
HasRows rows (Issued r n) = Unit {0}

abbrev pub HaveRows : ℕ → List (List OpenRequest) → List Event → Type 0
HaveRows cycle rows [] = Unit {0}
HaveRows cycle rows (e ∷ es) = HasRows rows e × HaveRows cycle (rows_with cycle rows e) es
