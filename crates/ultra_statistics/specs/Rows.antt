-- the table as it is written from what was counted
use Rattle.std.specs.Prelude.{ℕ, ◌+◌, ◌*◌, ◌^◌, List, [], ◌∷◌, ◌++◌, true, false, nat_lt, slice_index}
use Rattle.ultra_model.specs.{Machine.Settings, Trace.by_number}
use Rattle.ultra_statistics.specs.{declared.queues.QueueTable.QueueTable, Kept.counts_of, Queues.{numbers_row, queues_header}}

-- of position x of stage s
abbrev pub counts_row : QueueTable → ℕ → ℕ → ℕ → List ℕ
counts_row t end s x =
    let requests = counts_of t.requests.items s x in
    let records = counts_of t.records.items s x in
    let replies = counts_of t.replies.items s x in
    numbers_row t.from (end ∷ s ∷ x
    ∷ requests.left ∷ slice_index t.combined.items (s * 64 + x)
    ∷ requests.sum ∷ requests.most ∷ requests.full
    ∷ records.sum ∷ records.most ∷ records.full
    ∷ replies.left ∷ replies.sum ∷ replies.most ∷ replies.full ∷ [])

-- of a window that ends before cycle `end`
abbrev pub counted_table : Settings → QueueTable → ℕ → List ℕ
counted_table c t end =
    queues_header ++ elim (nat_lt t.from end) [
      | true ↦ by_number c.stages (λ s. by_number (2 ^ c.stages) (counts_row t end s))
      | false ↦ []
    ]
