-- the measures of a window: each name with its value, as texts. Some have no value
use Rattle.std.specs.Prelude.{ℕ, zero, suc, ◌*◌, ◌/◌, ◌%◌, List, [], ◌∷◌, ◌++◌, Bool, true, false, ◌==◌, nat_lt, length, min, max, sum, Option, Some, None, codes, decimal}
use Rattle.std.specs.List.{reduce, flat_map, range_with_len}
use Rattle.ultra_isa.specs.declared.Instr.{Instr}
use Rattle.ultra_model.specs.{Machine.{Settings, Machine, size, is_quiet}, Balance.total, Trace.{cycle_count, last_state}}
use Rattle.ultra_latency.specs.Latency.{latencies}
use Rattle.ultra_measure.specs.Window.{greatest, sum_of, most_of, event_count}
use Rattle.ultra_measure.specs.EventKinds.{is_issue, is_delivery, is_act, is_act_of, is_combination, is_combination_in}
use Rattle.ultra_measure.specs.Held.{running, stalled, opened, pending, waiting_in, waiting_out, requests, replies, records, full_waits}

-- ---- values
-- of a number
abbrev pub number : ℕ → Option (List ℕ)
number n = Some (decimal n)

-- of a number, where there is one
abbrev pub number_if : Option ℕ → Option (List ℕ)
number_if None = None
number_if (Some n) = number n

-- a number of thousandths, with three decimals
abbrev pub thousandths_text : ℕ → List ℕ
thousandths_text t =
    decimal (t / 1000) ++ codes "." ++ decimal (t / 100 % 10) ++ decimal (t / 10 % 10)
    ++ decimal (t % 10)

-- a mean: a sum divided by a count, rounded down; none where the count is 0
abbrev pub mean_if : ℕ → ℕ → Option (List ℕ)
mean_if sum zero = None
mean_if sum (suc n) = Some (thousandths_text (sum * 1000 / suc n))

-- how a run ended
abbrev pub end_word : Bool → List ℕ
end_word true = codes "quiet"
end_word false = codes "limit"

-- ---- the table
abbrev pub Column : Type 0
Column = List ℕ × Option (List ℕ)

-- the name of a measure of a stage
abbrev pub of_stage : List ℕ → ℕ → List ℕ
of_stage name s = name ++ codes "_" ++ decimal s

module _ (c : Settings) (program : List Instr) (from to : ℕ) where
  -- sums and maxima over the window: of all of the n values of a kind after each cycle, and of one
  abbrev pub sum_over : ℕ → (Machine → ℕ → ℕ) → ℕ
  sum_over n value = sum_of c program from to (λ m. total n (value m))

  abbrev pub most_over : ℕ → (Machine → ℕ → ℕ) → ℕ
  most_over n value = most_of c program from to (λ m. greatest n (value m))

  abbrev pub acts_of : ℕ → ℕ
  acts_of k = event_count c program from to (is_act_of k)

  abbrev pub waited : List ℕ
  waited = latencies c program from to

  -- only the last window has an end
  abbrev pub ending : Option (List ℕ)
  ending =
      elim (to == cycle_count c program) [
        | true ↦ Some (end_word (is_quiet (last_state c program)))
        | false ↦ None
      ]

  -- the settings, and the window
  abbrev pub first_column : Column
  first_column = (codes "stages", number c.stages)

  abbrev pub setting_columns : List Column
  setting_columns =
      (codes "pes", number (size c))
      ∷ (codes "request_places", number c.request_places)
      ∷ (codes "reply_places", number c.reply_places)
      ∷ (codes "wait_places", number c.wait_places)
      ∷ (codes "open", number c.most_open)
      ∷ (codes "cells", number c.cells)
      ∷ (codes "from", number from)
      ∷ (codes "to", number to)
      ∷ (codes "end", ending)
      ∷ []

  -- what happened
  abbrev pub event_columns : List Column
  event_columns =
      (codes "issued", number (event_count c program from to is_issue))
      ∷ (codes "answered", number (event_count c program from to is_delivery))
      ∷ (codes "acts", number (event_count c program from to is_act))
      ∷ (codes "combined", number (event_count c program from to is_combination))
      ∷ (codes "faults", number (sum_of c program from to (λ m. length m.stops)))
      ∷ (codes "acts_most", number (greatest (size c) acts_of))
      ∷ (codes "latency_least", number_if (reduce min waited))
      ∷ (codes "latency_greatest", number_if (reduce max waited))
      ∷ (codes "latency_mean", mean_if (sum waited) (length waited))
      ∷ []

  -- what was where after each cycle
  abbrev pub state_columns : List Column
  state_columns =
      (codes "running_sum", number (sum_over (size c) running))
      ∷ (codes "stalled_sum", number (sum_over (size c) (stalled c program)))
      ∷ (codes "open_sum", number (sum_over (size c) opened))
      ∷ (codes "pni_sum", number (sum_over (size c) pending))
      ∷ (codes "pni_most", number (most_over (size c) pending))
      ∷ (codes "inp_sum", number (sum_over (size c) waiting_in))
      ∷ (codes "out_sum", number (sum_over (size c) waiting_out))
      ∷ []

  -- a value of a stage, where the machine has the stage
  abbrev pub in_stage : List ℕ → ℕ → ℕ → Column
  in_stage name s value =
      (of_stage name s, elim (nat_lt s c.stages) [ true ↦ number value | false ↦ None ])

  abbrev pub stage_columns : ℕ → List Column
  stage_columns s =
      in_stage (codes "combined") s (event_count c program from to (is_combination_in s))
      ∷ in_stage (codes "request_queue_sum") s (sum_over (size c) (requests s))
      ∷ in_stage (codes "request_queue_most") s (most_over (size c) (requests s))
      ∷ in_stage (codes "reply_queue_sum") s (sum_over (size c) (replies s))
      ∷ in_stage (codes "reply_queue_most") s (most_over (size c) (replies s))
      ∷ in_stage (codes "records_sum") s (sum_over (size c) (records s))
      ∷ in_stage (codes "records_most") s (most_over (size c) (records s))
      ∷ in_stage (codes "full_waits") s (sum_over (size c) (full_waits c s))
      ∷ []

  unfoldable pub measures : List Column
  measures =
      first_column ∷ setting_columns ++ (event_columns ++ (state_columns
      ++ flat_map stage_columns (range_with_len 0 6)))
