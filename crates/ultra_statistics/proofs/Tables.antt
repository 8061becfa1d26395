-- the table that is written from the counts is that of the definition
use Rattle.std.proofs.Common.{ℕ, zero, suc, ◌≡◌, ◌+◌, ◌*◌, ◌^◌, ◌<◌, ◌≤◌, true, false, List, [], ◌∷◌, ◌++◌, refl, ap, ◌∙◌, arith}
use Rattle.std.specs.Prelude.{nat_lt, slice_index}
use Rattle.std.specs.List.{flat_map, range_with_len}
use Rattle.ultra_isa.specs.declared.Instr.{Instr}
use Rattle.ultra_model.specs.{Machine.{Settings, size}, Trace.by_number}
use Rattle.ultra_block.specs.Held.{TheVariants.{Request, Record}}
use Rattle.ultra_statistics.specs.{Ports.combination_count, Queues.{numbers_row, queues_header, port_row, port_rows, queues_of}, Runs.end_of, Rows.{counts_row, counted_table}, Kept.{IsTable, counts_of, window_counts}}
use Rattle.ultra_statistics.specs.declared.{counts.QueueCounts.QueueCounts, queues.QueueTable.QueueTable}

flat_same : (f g : ℕ → List ℕ) (a n : ℕ) → ((k : ℕ) → k < a + n → f k ≡ g k) → flat_map f (range_with_len a n) ≡ flat_map g (range_with_len a n)
flat_same f g a zero same = refl
flat_same f g a (suc n) same =
    let rest = flat_same f g (a + 1) n (λ k h. same k (omega (arith, h))) in
    let here = same a (omega arith) in
    rw (rest, here) refl

pub by_number_same : (n : ℕ) (f g : ℕ → List ℕ) → ((k : ℕ) → k < n → f k ≡ g k) → by_number n f ≡ by_number n g
by_number_same n f g same = flat_same f g 0 n (λ k h. same k (omega (arith, h)))

-- a row by the counts of its kinds
abbrev numbers : ℕ → ℕ → ℕ → ℕ → ℕ → QueueCounts → QueueCounts → QueueCounts → List ℕ
numbers first end s x combined requests records replies =
    numbers_row first (end ∷ s ∷ x
    ∷ requests.left ∷ combined
    ∷ requests.sum ∷ requests.most ∷ requests.full
    ∷ records.sum ∷ records.most ∷ records.full
    ∷ replies.left ∷ replies.sum ∷ replies.most ∷ replies.full ∷ [])

module _ (c : Settings) (few : c.stages ≤ 6) (small : size c ≤ 64) (program : List Instr) (first end : ℕ) (t : QueueTable) (is : IsTable c program first end end t) where
  row_is : (s x : ℕ) → s < c.stages → x < size c → counts_row t end s x ≡ port_row c program first end s x
  row_is s x hs hx =
      let requests = is.requests.each s x hs hx in
      let records = is.records.each s x hs hx in
      let replies = is.replies.each s x hs hx in
      let combined = is.combined.each s x (omega (arith, hs, few)) (omega (arith, hx, small)) in
      let a = counts_of t.requests.items s x in
      let b = counts_of t.records.items s x in
      let d = counts_of t.replies.items s x in
      let n = slice_index t.combined.items (s * 64 + x) in
      ap (λ f. numbers f end s x n a b d) is.from
      ∙ ap (λ v. numbers first end s x v a b d) combined
      ∙ ap (λ v. numbers first end s x (combination_count c program first end s x) v b d) requests
      ∙ ap (λ v. numbers first end s x (combination_count c program first end s x) (window_counts c program first end end Request s x) v d) records
      ∙ ap (λ v. numbers first end s x (combination_count c program first end s x) (window_counts c program first end end Request s x) (window_counts c program first end end Record s x) v) replies

  rows_are : by_number c.stages (λ s. by_number (2 ^ c.stages) (counts_row t end s)) ≡ port_rows c program first end
  rows_are = by_number_same c.stages (λ s. by_number (2 ^ c.stages) (counts_row t end s)) (λ s. by_number (size c) (port_row c program first end s)) (λ s hs. by_number_same (size c) (counts_row t end s) (port_row c program first end s) (λ x hx. row_is s x hs hx))

  pub table_is : (to : ℕ) → end ≡ end_of to c program → counted_table c t end ≡ queues_of first to c program
  unfolding queues_of
  table_is to last =
      ap (λ f. queues_header ++ elim (nat_lt f end) [ true ↦ by_number c.stages (λ s. by_number (2 ^ c.stages) (counts_row t end s)) | false ↦ [] ]) is.from
      ∙ ap (λ rows. queues_header ++ elim (nat_lt first end) [ true ↦ rows | false ↦ [] ]) rows_are
      ∙ ap (λ e. queues_header ++ elim (nat_lt first e) [ true ↦ port_rows c program first e | false ↦ [] ]) last
