-- how often each latency occurred, over one cycle more
use Rattle.std.proofs.Common.{ℕ, zero, suc, List, [], ◌++◌, ◌≡◌, ◌+◌, ◌-◌, ◌*◌, ◌^◌, ◌<◌, ◌≤◌, length, length-append, append-nil, refl, sym, ap, ◌∙◌, subst, arith}
use Rattle.std.specs.Prelude.{Option, Some, None, ◌==◌, option_to_list, vec_capacity}
use Rattle.std.specs.List.{flat_map, range_with_len}
use Rattle.std.proofs.lemmas.List.Concat.{flat_map-append}
use Rattle.ultra_msg.specs.declared.Event.{Event}
use Rattle.ultra_isa.specs.declared.Instr.{Instr}
use Rattle.ultra_model.specs.{Machine.{Settings, Machine}, Phases.after, Trace.by_number}
use Rattle.ultra_model.proofs.Counting.{count-append}
use Rattle.ultra_holders.proofs.Skipped.{range_parts}
use Rattle.ultra_latency.specs.{Latency.{latencies, latencies_of}, declared.open.{OpenRequest.OpenRequest, OpenTable.OpenTable}, Open.{IsOpenLaw, IsOpenTable, open_rows, rows_after, since}}
use Rattle.ultra_measure.proofs.{Events.count_small, Waiting.{rows_here}}
use Rattle.ultra_statistics.specs.{Runs.end_of, Latencies.{answered_in, count_of, latency_row, histogram_text, latencies_header, latencies_of_run, AreByLatency, IsHistogram}, declared.latencies.{LatencyCount.LatencyCount, LatencyCounts.LatencyCounts}}
use Rattle.ultra_statistics.proofs.{CountLists.{none_beyond, rows_are}, EventLaws.all_below}

pub answered_append : (xs ys : List ℕ) (l : ℕ) → answered_in (xs ++ ys) l ≡ answered_in xs l + answered_in ys l
answered_append xs ys l = count-append (λ x. x == l) xs ys

pub answered_small : (xs : List ℕ) (l : ℕ) → answered_in xs l ≤ length xs
answered_small xs l = count_small (λ x. x == l) xs

-- the latency of a request that is answered, where there is one
abbrev pub latency_if : ℕ → Option OpenRequest → Option ℕ
latency_if cycle None = None
latency_if cycle (Some o) = Some (cycle - o.cycle)

pub since_is : (cycle : ℕ) (o : Option OpenRequest) → option_to_list (latency_if cycle o) ≡ since cycle o
since_is cycle None = refl
since_is cycle (Some o) = refl

pub since_one : (cycle : ℕ) (o : Option OpenRequest) → length (since cycle o) ≤ 1
since_one cycle None = omega arith
since_one cycle (Some o) = omega arith

pub none_by_latency : (ps : List LatencyCount) → ps ≡ [] → AreByLatency 0 ps
none_by_latency ps is = subst (λ (qs : List LatencyCount). AreByLatency 0 qs) (sym is) tt

made_again : (n : ℕ) → (n ≡ 0 → ⊥) → n - 1 + 1 ≡ n
made_again zero h = absurd (h refl)
made_again (suc n) h = omega arith

module _ (c : Settings) (program : List Instr) (first : ℕ) where
  none_waited : (to : ℕ) → to ≤ first → latencies c program first to ≡ []
  none_waited to early = let no : to - first ≡ 0 = omega (arith, early) in ap (λ n. flat_map (latencies_of c program) (range_with_len first n)) no

  waited_more : (to : ℕ) → first ≤ to → latencies c program first (to + 1) ≡ latencies c program first to ++ latencies_of c program to
  waited_more to order =
      let longer : to - first + 1 ≡ to + 1 - first = omega (arith, order) in
      let start : first + (to - first) ≡ to = omega (arith, order) in
      ap (flat_map (latencies_of c program)) (range_parts first (to - first) 1 (to + 1 - first) longer)
      ∙ flat_map-append (latencies_of c program) (range_with_len first (to - first)) (range_with_len (first + (to - first)) 1)
      ∙ ap (λ k. latencies c program first to ++ (latencies_of c program k ++ [])) start
      ∙ ap (λ xs. latencies c program first to ++ xs) (append-nil (latencies_of c program to))

  few_along : (few : (n : ℕ) → length (latencies_of c program n) ≤ 64) (a n : ℕ) → length (flat_map (latencies_of c program) (range_with_len a n)) ≤ n * 64
  few_along few a zero = omega arith
  few_along few a (suc n) =
      let rest = few_along few (a + 1) n in
      let both = length-append (latencies_of c program a) (flat_map (latencies_of c program) (range_with_len (a + 1) n)) in
      omega (arith, rest, few a, both)

  pub counts_fit : (few : (n : ℕ) → length (latencies_of c program n) ≤ 64) (to more : ℕ) → to ≤ 2 ^ 20 → more ≤ 960 → (l : ℕ) → answered_in (latencies c program first to) l + more < 2 ^ 32
  counts_fit few to more early small l = omega (arith, early, small, answered_small (latencies c program first to) l, few_along few first (to - first))

  pub none_counted : (ps : List LatencyCount) → ps ≡ [] → (l : ℕ) → count_of ps l ≡ answered_in (latencies c program first 0) l
  none_counted ps is l = ap (λ xs. count_of xs l) is ∙ ap (λ xs. answered_in xs l) (sym (none_waited 0 (omega arith)))

  -- ---- after cycle `made - 1`
  module _ (made : ℕ) (some : made ≡ 0 → ⊥) where
    again : made - 1 + 1 ≡ made
    again = made_again made some

    pub events_here : (m : Machine) (es : List Event) → m ≡ after c program made → es ≡ m.events → es ≡ (after c program (made - 1 + 1)).events
    events_here m es state is = is ∙ ap (λ (s : Machine). s.events) state ∙ ap (λ k. (after c program k).events) (sym again)

    module _ (law : IsOpenLaw c program (made - 1)) (es : List Event) (is : es ≡ (after c program (made - 1 + 1)).events) (old new : OpenTable) (are : IsOpenTable c program (made - 1) old) where
      pub table_next : new.rows.items ≡ rows_after (made - 1) old.rows.items es → vec_capacity new.rows ≡ vec_capacity old.rows → IsOpenTable c program made new
      table_next rows capacity = record {
        rows = rows ∙ rows_here c program (made - 1) law es is old.rows.items are.rows ∙ ap (open_rows c program) again;
        capacity = capacity ∙ are.capacity;
      }

    pub same_counts_early : made - 1 < first → (ns : List LatencyCount) → ((l : ℕ) → count_of ns l ≡ answered_in (latencies c program first (made - 1)) l) → (l : ℕ) → count_of ns l ≡ answered_in (latencies c program first made) l
    same_counts_early early ns are l = are l ∙ ap (λ xs. answered_in xs l) (none_waited (made - 1) (omega (arith, early)) ∙ sym (none_waited made (omega (arith, early, again))))

    pub counts_next : first ≤ made - 1 → (shown : List ℕ) → shown ≡ latencies_of c program (made - 1) → (old new : List LatencyCount) → ((l : ℕ) → count_of old l ≡ answered_in (latencies c program first (made - 1)) l) → ((l : ℕ) → count_of new l ≡ count_of old l + answered_in shown l) → (l : ℕ) → count_of new l ≡ answered_in (latencies c program first made) l
    counts_next order shown is old new are now l =
        now l
        ∙ ap (λ v. v + answered_in shown l) (are l)
        ∙ ap (λ xs. answered_in (latencies c program first (made - 1)) l + answered_in xs l) is
        ∙ sym (answered_append (latencies c program first (made - 1)) (latencies_of c program (made - 1)) l)
        ∙ ap (λ xs. answered_in xs l) (sym (waited_more (made - 1) order))
        ∙ ap (λ k. answered_in (latencies c program first k) l) again

  -- ---- the text
  pub histogram_is : (to end : ℕ) (t : LatencyCounts) → end ≡ end_of to c program → IsHistogram c program first end t → histogram_text t.counts.items ≡ latencies_of_run first to c program
  unfolding latencies_of_run
  histogram_is to end t last is =
      let xs = latencies c program first end in
      ap (λ rows. latencies_header ++ rows) (sym (rows_are (answered_in xs) end 0 t.counts.items is.by_latency (λ l h. sym (is.counts l)) (λ l h. none_beyond end l xs (all_below c program first end) (omega (arith, h)))))
      ∙ ap (λ e. latencies_header ++ by_number e (λ l. latency_row l (answered_in (latencies c program first e) l))) last
