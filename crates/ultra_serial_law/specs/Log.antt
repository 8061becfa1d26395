-- what a machine issued and answered, with names and cycles
use Rattle.std.specs.Prelude.{ℕ, List, [], ◌∷◌, ◌++◌, Bool, true, false, ◌&&◌, ◌==◌}
use Rattle.ultra_msg.specs.declared.Event.{Event, TheVariants.{Delivered, Served, Combined, Issued}}
pub use Rattle.ultra_serial_law.specs.declared.records.{LoggedIssue.LoggedIssue, LoggedAnswer.LoggedAnswer}
use Rattle.ultra_serial_law.specs.declared.records.Log as program

-- both by cycle, then by processing element
pub record Log : Type 0 where
  pub issues : List LoggedIssue
  pub answers : List LoggedAnswer

-- the log that a program holds
abbrev pub log_of : program.Log → Log
log_of l = record { issues = l.issues.items; answers = l.answers.items }

abbrev pub empty_log : Log
empty_log = record { issues = []; answers = [] }

-- whether an issue is of a processing element for a cell
abbrev pub is_issue_for : ℕ → ℕ → LoggedIssue → Bool
is_issue_for p a i = (i.pe == p) && (i.cell == a)

-- the number of the latest issue of a processing element for a cell, or else n
abbrev pub latest_number : ℕ → ℕ → List LoggedIssue → ℕ → ℕ
latest_number p a [] n = n
latest_number p a (i ∷ is) n =
    latest_number p a is (elim (is_issue_for p a i) [ true ↦ i.number | false ↦ n ])

-- the log after an event of a cycle: a delivery answers the latest issue of its processing element
-- for its cell
abbrev pub logged : ℕ → Log → Event → Log
logged cycle l (Delivered r) =
    record l {
      answers = l.answers
          ++ record {
            pe = r.pe;
            number = latest_number r.pe r.cell l.issues 0;
            reply = r.reply;
            cycle = cycle;
          } ∷ [];
    }
logged cycle l (Served k r reply now) = l
logged cycle l (Combined s x a p q f) = l
logged cycle l (Issued r n) =
    record l {
      issues = l.issues
          ++ record { pe = r.pe; number = n; cell = r.cell; op = r.op; cycle = cycle } ∷ [];
    }
