-- how long the requests of a run took, as a histogram; this project's profile
use Rattle.std.specs.Prelude.{◌≡◌, ℕ, ◌+◌, ◌<◌, ◌≤◌, List, [], ◌∷◌, ◌++◌, zero, suc, true, false, ◌==◌, codes}
use Rattle.std.specs.List.{flat_map}
use Rattle.ultra_isa.specs.declared.Instr.{Instr}
use Rattle.ultra_model.specs.{Machine.Settings, Balance.count, Text.newline, Trace.by_number}
use Rattle.ultra_latency.specs.{Latency.latencies, Open.IsOpenTable}
use Rattle.ultra_statistics.specs.{Queues.numbers_row, Runs.end_of, declared.latencies.{LatencyCount.LatencyCount, LatencyCounts.LatencyCounts}}

-- how often a latency occurred
abbrev pub answered_in : List ℕ → ℕ → ℕ
answered_in xs l = count (λ x. x == l) xs

abbrev pub latency_row : ℕ → ℕ → List ℕ
latency_row l zero = []
latency_row l (suc n) = numbers_row l (suc n ∷ [])

abbrev pub latencies_header : List ℕ
latencies_header = codes "latency,answered" ++ newline

-- a row for each latency that occurred; each is below the number of cycles
unfoldable pub latencies_of_run : ℕ → ℕ → Settings → List Instr → List ℕ
latencies_of_run from to c program =
    let end = end_of to c program in
    latencies_header
    ++ by_number end (λ l. latency_row l (answered_in (latencies c program from end) l))

-- ---- as they are counted while the run goes on: a count for each latency that occurred
-- how often one occurred
abbrev pub count_of : List LatencyCount → ℕ → ℕ
count_of [] l = 0
count_of (p ∷ ps) l = elim (p.latency == l) [ true ↦ p.answered | false ↦ count_of ps l ]

-- from latency `least` on, in ascending order, each once
abbrev pub AreByLatency : ℕ → List LatencyCount → Type 0
AreByLatency least [] = Unit {0}
AreByLatency least (p ∷ ps) =
    (least ≤ p.latency) × (0 < p.answered) × AreByLatency (p.latency + 1) ps

abbrev pub count_row : LatencyCount → List ℕ
count_row p = numbers_row p.latency (p.answered ∷ [])

abbrev pub histogram_text : List LatencyCount → List ℕ
histogram_text ps = latencies_header ++ flat_map count_row ps

pub record IsHistogram (c : Settings) (program : List Instr) (first ended : ℕ)
    (t : LatencyCounts) : Type 0 where
  pub table : IsOpenTable c program ended t.table
  pub by_latency : AreByLatency 0 t.counts.items
  pub counts : (l : ℕ)
      → count_of t.counts.items l ≡ answered_in (latencies c program first ended) l
