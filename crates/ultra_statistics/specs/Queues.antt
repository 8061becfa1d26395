-- the table of what the queues of a run held and what moved in them; this project's profile
use Rattle.std.specs.Prelude.{ℕ, List, [], ◌∷◌, ◌++◌, true, false, nat_lt, codes, decimal}
use Rattle.std.specs.List.{flat_map}
use Rattle.ultra_isa.specs.declared.Instr.{Instr}
use Rattle.ultra_model.specs.{Machine.{Settings, size}, Text.newline, Trace.by_number}
use Rattle.ultra_block.specs.Held.{TheVariants.{Reply, Request, Record}}
use Rattle.ultra_statistics.specs.{Ports.{left_count, held_sum, held_most, full_count, combination_count}, Runs.end_of}

-- a row of numbers
abbrev pub number_behind_comma : ℕ → List ℕ
number_behind_comma n = codes "," ++ decimal n

abbrev pub numbers_row : ℕ → List ℕ → List ℕ
numbers_row n ns = decimal n ++ flat_map number_behind_comma ns ++ newline

abbrev pub queues_header : List ℕ
queues_header =
    codes "from,to,stage,position,requests,combined,"
    ++ codes "request_queue_sum,request_queue_most,request_queue_full,"
    ++ codes "records_sum,records_most,full_waits,"
    ++ codes "replies,reply_queue_sum,reply_queue_most,reply_queue_full" ++ newline

-- the cycles from `from` on, below `to`
module _ (c : Settings) (program : List Instr) (from to : ℕ) where
  -- of position x of stage s, in the order of the header
  abbrev pub port_row : ℕ → ℕ → List ℕ
  port_row s x =
      numbers_row from (to ∷ s ∷ x
      ∷ left_count c program from to Request s x
      ∷ combination_count c program from to s x
      ∷ held_sum c program from to Request s x
      ∷ held_most c program from to Request s x
      ∷ full_count c program from to Request s x
      ∷ held_sum c program from to Record s x
      ∷ held_most c program from to Record s x
      ∷ full_count c program from to Record s x
      ∷ left_count c program from to Reply s x
      ∷ held_sum c program from to Reply s x
      ∷ held_most c program from to Reply s x
      ∷ full_count c program from to Reply s x ∷ [])

  -- of each position of each stage
  abbrev pub port_rows : List ℕ
  port_rows = by_number c.stages (λ s. by_number (size c) (port_row s))

-- the table of the cycles from `from` to `to`, as far as the run has them; without any of them it
-- has no rows
unfoldable pub queues_of : ℕ → ℕ → Settings → List Instr → List ℕ
queues_of from to c program =
    let end = end_of to c program in
    queues_header
    ++ elim (nat_lt from end) [ true ↦ port_rows c program from end | false ↦ [] ]
