-- how many cycles after their issues replies are delivered
use Rattle.std.specs.Prelude.{ℕ, ◌+◌, ◌-◌, List, [], ◌∷◌, true, false}
use Rattle.std.specs.List.{flat_map, range_with_len}
use Rattle.ultra_msg.specs.declared.{Op.TheVariants.Load, Event.{Event, TheVariants.{Delivered, Served, Combined, Issued}}}
use Rattle.ultra_isa.specs.declared.Instr.{Instr}
use Rattle.ultra_model.specs.{Machine.Settings, Phases.after}
use Rattle.ultra_serial_law.specs.{declared.records.LoggedIssue.LoggedIssue, Log.is_issue_for, SerialList.history}

-- the latest issue of processing element p for cell a, or else i
abbrev pub latest_among : ℕ → ℕ → List LoggedIssue → LoggedIssue → LoggedIssue
latest_among p a [] i = i
latest_among p a (j ∷ js) i =
    latest_among p a js (elim (is_issue_for p a j) [ true ↦ j | false ↦ i ])

abbrev pub no_issue : LoggedIssue
no_issue = record { pe = 0; number = 0; cell = 0; op = Load; cycle = 0 }

module _ (c : Settings) (program : List Instr) where
  -- the latest issue of processing element p for cell a in the first n cycles
  unfoldable pub latest_issue : ℕ → ℕ → ℕ → LoggedIssue
  latest_issue p a n = latest_among p a (history c program n).log.issues no_issue

  -- of the deliveries among events of cycle n: a delivery answers the latest issue of its
  -- processing element for its cell
  abbrev pub latencies_among : ℕ → List Event → List ℕ
  latencies_among n [] = []
  latencies_among n (Delivered r ∷ es) =
      (n - (latest_issue r.pe r.cell n).cycle) ∷ latencies_among n es
  latencies_among n (Served k r v now ∷ es) = latencies_among n es
  latencies_among n (Combined s x a old new first ∷ es) = latencies_among n es
  latencies_among n (Issued r k ∷ es) = latencies_among n es

  -- of all deliveries of cycle n
  abbrev pub latencies_of : ℕ → List ℕ
  latencies_of n = latencies_among n (after c program (n + 1)).events

  -- of the cycles from `from` on, below `to`
  abbrev pub latencies : ℕ → ℕ → List ℕ
  latencies from to = flat_map latencies_of (range_with_len from (to - from))
