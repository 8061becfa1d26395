-- the latencies of a window: at its start, and of one cycle more
use Rattle.std.proofs.Common.{ℕ, List, [], ◌++◌, ◌≡◌, ◌+◌, ◌-◌, ◌≤◌, length, length-append, append-nil, sym, subst, ap, ◌∙◌, arith}
use Rattle.std.specs.List.{flat_map, range_with_len}
use Rattle.std.proofs.lemmas.List.Concat.{flat_map-append}
use Rattle.ultra_msg.specs.declared.Event.{Event}
use Rattle.ultra_isa.specs.declared.Instr.{Instr}
use Rattle.ultra_model.specs.{Machine.Settings, Phases.after}
use Rattle.ultra_holders.proofs.Skipped.{range_parts}
use Rattle.ultra_latency.specs.{Latency.{latencies, latencies_of}, declared.{open.OpenRequest.OpenRequest, summary.Latencies.Latencies}, Open.{IsOpenLaw, HavePlaces, open_rows, rows_after, latencies_along}, Summary.{AreSummedUp, AreSmall}}
use Rattle.ultra_measure.specs.Kept.{AreLatencies}

module _ (c : Settings) (program : List Instr) (from : ℕ) where
  none : latencies c program from from ≡ []
  none = let no : from - from ≡ 0 = omega arith in ap (λ n. flat_map (latencies_of c program) (range_with_len from n)) no

  pub no_latencies : (l : Latencies) → AreSummedUp [] l → AreSmall l → l.count ≡ 0 → AreLatencies c program from from l
  no_latencies l are small zero = record {
    summary = subst (λ xs. AreSummedUp xs l) (sym none) are;
    small = small;
    few = omega (arith, zero);
  }

  module _ (to : ℕ) (order : from ≤ to) where
    more : latencies c program from (to + 1) ≡ latencies c program from to ++ latencies_of c program to
    more =
        let longer : to - from + 1 ≡ to + 1 - from = omega arith in
        let start : from + (to - from) ≡ to = omega arith in
        ap (flat_map (latencies_of c program)) (range_parts from (to - from) 1 (to + 1 - from) longer)
        ∙ flat_map-append (latencies_of c program) (range_with_len from (to - from)) (range_with_len (from + (to - from)) 1)
        ∙ ap (λ k. latencies c program from to ++ (latencies_of c program k ++ [])) start
        ∙ ap (λ xs. latencies c program from to ++ xs) (append-nil (latencies_of c program to))

    pub latencies_go_on : (old new : Latencies) (shown : List ℕ) → AreLatencies c program from to old → shown ≡ latencies_of c program to → length (latencies_of c program to) ≤ 64
        → ((xs : List ℕ) → AreSummedUp xs old → AreSummedUp (xs ++ shown) new) → AreSmall new → AreLatencies c program from (to + 1) new
    latencies_go_on old new shown are is few goes_on small =
        let all : AreSummedUp (latencies c program from (to + 1)) new = subst (λ ys. AreSummedUp ys new) (ap (λ ys. latencies c program from to ++ ys) is ∙ sym more) (goes_on (latencies c program from to) are.summary) in
        let count = ap length more ∙ length-append (latencies c program from to) (latencies_of c program to) in
        record {
          summary = all;
          small = small;
          few = omega (arith, all.count, are.summary.count, count, are.few, few, order);
        }

-- ---- the law of open requests, for events and rows that are those of a cycle
module _ (c : Settings) (program : List Instr) (n : ℕ) (law : IsOpenLaw c program n) (es : List Event) (is : es ≡ (after c program (n + 1)).events) (rows : List (List OpenRequest)) (are : rows ≡ open_rows c program n) where
  pub places_here : HavePlaces n rows es
  places_here = subst (λ r. HavePlaces n r es) (sym are) (subst (λ xs. HavePlaces n (open_rows c program n) xs) (sym is) law.places)

  pub rows_here : rows_after n rows es ≡ open_rows c program (n + 1)
  rows_here = ap (λ r. rows_after n r es) are ∙ ap (rows_after n (open_rows c program n)) is ∙ law.rows

  pub shown_here : latencies_along n rows es ≡ latencies_of c program n
  shown_here = ap (λ r. latencies_along n r es) are ∙ ap (latencies_along n (open_rows c program n)) is ∙ law.latencies
