-- the counts of a table go on with a state, and have room for it
use Rattle.std.proofs.Common.{ℕ, zero, suc, ◌≡◌, ◌+◌, ◌-◌, ◌*◌, ◌^◌, ◌<◌, ◌≤◌, ◌/◌, ◌%◌, Bool, true, false, List, length, get_or, replicate, subst, refl, sym, ap, ◌∙◌, arith}
use Rattle.std.specs.Prelude.{nat_lt, slice_index}
use Rattle.std.proofs.lemmas.Bool.Decides.{nat_tests}
use Rattle.std.proofs.lemmas.List.{length-replicate}
use Rattle.ultra_isa.specs.declared.Instr.{Instr}
use Rattle.ultra_model.specs.{Machine.{Settings, Machine, size, start}, Phases.after, Balance.{count, total, weight}, Ranges.AreInRange}
use Rattle.ultra_model.proofs.Sound.{after_is_sound}
use Rattle.ultra_block.specs.Held.{Held, TheVariants.{Reply, Request, Record}}
use Rattle.ultra_latency.specs.Few.{HasFewEvents}
use Rattle.ultra_measure.specs.{Held.{held_at}}
use Rattle.ultra_measure.proofs.{Events.count_small, Keeping.zeros}
use Rattle.ultra_statistics.specs.{Ports.{leaving_at, lacks_room, combination_count, is_combination_at}, declared.{counts.{QueueCounts.QueueCounts}, queues.QueueTable.QueueTable}}
use Rattle.ultra_statistics.specs.Kept.{no_counts, if_so, with_state, window_counts, AreCountsWithState, AreCounted, AreCombinations, HasCountRoom, HaveCountRoom, CanTakeState, IsWithState, IsTable}
use Rattle.ultra_statistics.proofs.Windows.{no_sum, no_most, no_sum_before, sum_with, most_with, sum_before_with}

-- ---- bounds
weight_small : (b : Bool) → weight b ≤ 1
weight_small true = omega arith
weight_small false = omega arith

total_ones : (n : ℕ) (f : ℕ → ℕ) → ((k : ℕ) → f k ≤ 1) → total n f ≤ n
unfolding total
total_ones zero f h = omega arith
total_ones (suc n) f h = omega (arith, total_ones n f h, h n)

total_more : (n : ℕ) (f : ℕ → ℕ) → ((k : ℕ) → f k ≤ 64) → total n f ≤ n * 64
unfolding total
total_more zero f h = omega arith
total_more (suc n) f h = omega (arith, total_more n f h, h n)

total_events : (n : ℕ) (f : ℕ → ℕ) → ((k : ℕ) → f k ≤ 960) → total n f ≤ n * 960
unfolding total
total_events zero f h = omega arith
total_events (suc n) f h = omega (arith, total_events n f h, h n)

leaving_small : (c : Settings) (held : Held) (s : ℕ) (m : Machine) (x : ℕ) → leaving_at c held s m x ≤ 1
leaving_small c Request s m x = weight_small _
leaving_small c Record s m x = omega arith
leaving_small c Reply s m x = weight_small _

full_small : (c : Settings) (held : Held) (s : ℕ) (m : Machine) (x : ℕ) → lacks_room c held s m x ≤ 1
full_small c Request s m x = weight_small _
full_small c Record s m x = weight_small _
full_small c Reply s m x = weight_small _

module _ (c : Settings) (range : AreInRange c) (program : List Instr) where
  held_small : (held : Held) (s x : ℕ) → s < c.stages → x < size c → (n : ℕ) → held_at held s (after c program n) x ≤ 64
  held_small Request s x hs hx n = omega (arith, (after_is_sound c range program n).places.requests s x hs hx, range.most_request_places)
  held_small Record s x hs hx n = omega (arith, (after_is_sound c range program n).places.records s x hs hx, range.most_wait_places)
  held_small Reply s x hs hx n = omega (arith, (after_is_sound c range program n).places.replies s x hs hx, range.most_reply_places)

  module _ (first ended begun : ℕ) (early : ended ≤ 2 ^ 20) (early_start : begun ≤ 2 ^ 20) where
    room_at : (held : Held) (s x : ℕ) → s < c.stages → x < size c → HasCountRoom (window_counts c program first ended begun held s x)
    room_at held s x hs hx = record {
      left = omega (arith, early_start, total_ones (begun - first) (λ k. leaving_at c held s (after c program (first + k)) x) (λ k. leaving_small c held s (after c program (first + k)) x));
      sum = omega (arith, early, total_more (ended - first) (λ k. held_at held s (after c program (first + k + 1)) x) (λ k. held_small held s x hs hx (first + k + 1)));
      full = omega (arith, early, total_ones (ended - first) (λ k. lacks_room c held s (after c program (first + k + 1)) x) (λ k. full_small c held s (after c program (first + k + 1)) x));
    }

    pub have_room : (held : Held) (qs : List QueueCounts) → AreCounted c program first ended begun held qs → HaveCountRoom c qs
    have_room held qs are s x hs hx = rw (are.each s x hs hx) (room_at held s x hs hx)

    pub can_take : (t : QueueTable) → IsTable c program first ended begun t → CanTakeState c t
    can_take t is = record {
      places = record { requests = is.requests.count; records = is.records.count; replies = is.replies.count; combined = is.combined.count };
      requests = have_room Request t.requests.items is.requests;
      records = have_room Record t.records.items is.records;
      replies = have_room Reply t.replies.items is.replies;
    }

  -- ---- combinations
  combined_small : (few : (n : ℕ) → HasFewEvents c program n) (first to s x : ℕ) → to ≤ 2 ^ 20 → combination_count c program first to s x ≤ 2 ^ 20 * 960
  combined_small few first to s x early =
      omega (arith, early, total_events (to - first) (λ k. count (is_combination_at s x) (after c program (first + k + 1)).events) (λ k. omega (arith, count_small (is_combination_at s x) (after c program (first + k + 1)).events, (few (first + k)).events)))

  none_at_start : length (after c program 0).events ≡ 0
  unfolding after start
  none_at_start = refl

  pub few_events : (few : (n : ℕ) → HasFewEvents c program n) (n : ℕ) → length (after c program n).events ≤ 960
  few_events few zero = omega (arith, none_at_start)
  few_events few (suc n) =
      let next : suc n ≡ n + 1 = omega arith in
      subst (λ k. length (after c program k).events ≤ 960) (sym next) (few n).events

  quotient : (k : ℕ) → k < 384 → (k ≡ k / 64 * 64 + k % 64) × ((k / 64 < 6) × (k % 64 < 64))
  quotient k h = (omega arith, (omega (arith, h), omega arith))

  pub combinations_fit : (few : (n : ℕ) → HasFewEvents c program n) (first to begun : ℕ) (ns : List ℕ) (more : ℕ) → to ≤ 2 ^ 20 → more ≤ 960 → AreCombinations c program first to begun ns → (k : ℕ) → k < 384 → slice_index ns k + more < 2 ^ 32
  combinations_fit few first to begun ns more early small are k h =
      let parts = quotient k h in
      let is = ap (slice_index ns) parts.0 ∙ are.each (k / 64) (k % 64) parts.1.0 parts.1.1 in
      omega (arith, is, small, combined_small few first to (k / 64) (k % 64) early)

-- ---- a state more
module _ (c : Settings) (program : List Instr) (first n : ℕ) (m : Machine) (is : m ≡ after c program n) (order : first ≤ n) (ended begins : Bool) (late : ended ≡ nat_lt first n) where
  if_late : ended ≡ true → first < n
  if_late h = grind (arith, nat_tests)

  if_early : ended ≡ false → n ≤ first
  if_early h = grind (arith, nat_tests)

  next_counts : (held : Held) (s x : ℕ) → with_state c held record { ended = ended; begins = begins } m s x (window_counts c program first (n - 1) n held s x) ≡ window_counts c program first n (n + weight begins) held s x
  next_counts held s x =
      let left = sum_before_with c program first n m is begins (λ m. leaving_at c held s m x) order in
      let sum = sum_with c program first n m is ended (λ m. held_at held s m x) if_late if_early in
      let most = most_with c program first n m is ended (λ m. held_at held s m x) if_late if_early in
      let full = sum_with c program first n m is ended (λ m. lacks_room c held s m x) if_late if_early in
      rw (left, sum, most, full) refl

  next_kind : (held : Held) (old new : List QueueCounts) → AreCounted c program first (n - 1) n held old → AreCountsWithState c held record { ended = ended; begins = begins } m old new → AreCounted c program first n (n + weight begins) held new
  next_kind held old new are now = record {
    count = now.count;
    each = λ s x hs hx.
        now.each s x hs hx
        ∙ ap (with_state c held record { ended = ended; begins = begins } m s x) (are.each s x hs hx)
        ∙ next_counts held s x;
  }

  next_combined : (old new : List ℕ) → AreCombinations c program first (n - 1) n old → length new ≡ 384 → ((s x : ℕ) → s < 6 → x < 64 → slice_index new (s * 64 + x) ≡ slice_index old (s * 64 + x) + if_so ended (count (is_combination_at s x) m.events)) → AreCombinations c program first n (n + weight begins) new
  next_combined old new are places each = record {
    count = places;
    each = λ s x hs hx.
        each s x hs hx
        ∙ ap (λ v. v + if_so ended (count (is_combination_at s x) m.events)) (are.each s x hs hx)
        ∙ sym (sum_with c program first n m is ended (λ m. count (is_combination_at s x) m.events) if_late if_early);
  }

  -- of the whole table; `mid` has no combinations of this state yet
  pub next_table : (old mid new : QueueTable) → IsTable c program first (n - 1) n old → IsWithState c record { ended = ended; begins = begins } m old mid → new ≡ record mid { combined = new.combined } → length new.combined.items ≡ 384 → ((s x : ℕ) → s < 6 → x < 64 → slice_index new.combined.items (s * 64 + x) ≡ slice_index mid.combined.items (s * 64 + x) + if_so ended (count (is_combination_at s x) m.events)) → IsTable c program first n (n + weight begins) new
  next_table old mid new are now same places each = record {
    from = ap (λ (t : QueueTable). t.from) same ∙ now.from ∙ are.from;
    requests = next_kind Request old.requests.items new.requests.items are.requests (rw (ap (λ (t : QueueTable). t.requests) same) now.requests);
    records = next_kind Record old.records.items new.records.items are.records (rw (ap (λ (t : QueueTable). t.records) same) now.records);
    replies = next_kind Reply old.replies.items new.replies.items are.replies (rw (ap (λ (t : QueueTable). t.replies) same) now.replies);
    combined = next_combined old.combined.items new.combined.items are.combined places (λ s x hs hx. rw now.combined at (each s x hs hx));
  }

-- before the window nothing is counted
module _ (c : Settings) (program : List Instr) (first n : ℕ) (early : n < first) (begins : Bool) where
  weight_one : weight begins ≤ 1
  weight_one = weight_small begins

  same_window : (held : Held) (s x : ℕ) → window_counts c program first (n - 1) n held s x ≡ window_counts c program first n (n + weight begins) held s x
  same_window held s x =
      let left = no_sum_before c program first n (λ m. leaving_at c held s m x) (omega (arith, early)) ∙ sym (no_sum_before c program first (n + weight begins) (λ m. leaving_at c held s m x) (omega (arith, early, weight_one))) in
      let sum = no_sum c program first (n - 1) (λ m. held_at held s m x) (omega (arith, early)) ∙ sym (no_sum c program first n (λ m. held_at held s m x) (omega (arith, early))) in
      let most = no_most c program first (n - 1) (λ m. held_at held s m x) (omega (arith, early)) ∙ sym (no_most c program first n (λ m. held_at held s m x) (omega (arith, early))) in
      let full = no_sum c program first (n - 1) (λ m. lacks_room c held s m x) (omega (arith, early)) ∙ sym (no_sum c program first n (λ m. lacks_room c held s m x) (omega (arith, early))) in
      rw (left, sum, most, full) refl

  same_kind : (held : Held) (qs : List QueueCounts) → AreCounted c program first (n - 1) n held qs → AreCounted c program first n (n + weight begins) held qs
  same_kind held qs are = record { count = are.count; each = λ s x hs hx. are.each s x hs hx ∙ same_window held s x }

  pub same_table : (t : QueueTable) → IsTable c program first (n - 1) n t → IsTable c program first n (n + weight begins) t
  same_table t are = record {
    from = are.from;
    requests = same_kind Request t.requests.items are.requests;
    records = same_kind Record t.records.items are.records;
    replies = same_kind Reply t.replies.items are.replies;
    combined =
        record {
          count = are.combined.count;
          each = λ s x hs hx. are.combined.each s x hs hx ∙ no_sum c program first (n - 1) (λ m. count (is_combination_at s x) m.events) (omega (arith, early)) ∙ sym (no_sum c program first n (λ m. count (is_combination_at s x) m.events) (omega (arith, early)));
        };
  }

-- ---- at the start
all_same : (n k : ℕ) (q : QueueCounts) → get_or (replicate n q) k q ≡ q
all_same zero k q = refl
all_same (suc n) zero q = refl
all_same (suc n) (suc k) q = all_same n k q

module _ (c : Settings) (program : List Instr) (first : ℕ) where
  no_window : (held : Held) (s x : ℕ) → window_counts c program first 0 0 held s x ≡ no_counts
  no_window held s x =
      let left = no_sum_before c program first 0 (λ m. leaving_at c held s m x) (omega arith) in
      let sum = no_sum c program first 0 (λ m. held_at held s m x) (omega arith) in
      let most = no_most c program first 0 (λ m. held_at held s m x) (omega arith) in
      let full = no_sum c program first 0 (λ m. lacks_room c held s m x) (omega arith) in
      rw (left, sum, most, full) refl

  none_counted : (held : Held) (qs : List QueueCounts) → qs ≡ replicate 384 no_counts → AreCounted c program first 0 0 held qs
  none_counted held qs is = record {
    count = ap length is ∙ length-replicate 384 no_counts;
    each = λ s x hs hx. ap (λ l. get_or l (s * 64 + x) no_counts) is ∙ all_same 384 (s * 64 + x) no_counts ∙ sym (no_window held s x);
  }

  pub none_in_table : (t : QueueTable) → t.from ≡ first → t.requests.items ≡ replicate 384 no_counts → t.records.items ≡ replicate 384 no_counts → t.replies.items ≡ replicate 384 no_counts → t.combined.items ≡ replicate 384 0 → IsTable c program first 0 0 t
  none_in_table t from requests records replies combined = record {
    from = from;
    requests = none_counted Request t.requests.items requests;
    records = none_counted Record t.records.items records;
    replies = none_counted Reply t.replies.items replies;
    combined =
        record {
          count = ap length combined ∙ length-replicate {A = ℕ} 384 0;
          each = λ s x hs hx. ap (λ l. slice_index l (s * 64 + x)) combined ∙ zeros 384 (s * 64 + x) 0 refl ∙ sym (no_sum c program first 0 (λ m. count (is_combination_at s x) m.events) (omega arith));
        };
  }
