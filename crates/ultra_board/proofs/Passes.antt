-- the steps on passes keep the rule
use Rattle.std.proofs.Common.{◌≡◌, ℕ, ◌+◌, ◌-◌, ◌%◌, ◌^◌, ◌<◌, ◌≤◌, List, length, set, refl, arith, get_or-set_same, get_or-set_other, ◌∙◌}
use Rattle.std.proofs.Math.ListN.{length-set}
use Rattle.std.specs.Prelude.{slice_index, slice_set}
use lib.ListN.{get_elem?}
use native.Mathlib.Decide.{dec_le}
use mathlib.Core.Option.{some}
use Rattle.atomic_table.specs.Table.{State}
use Rattle.ultra_board.specs.{declared.rule.{View.View, Limits.Limits}, View.{total_over_views, times, spent_places}, Step.{LoadsPasses, AddsToPasses, SubtractsFromPasses}, Rule.IsBoardRule}
use Rattle.ultra_board.proofs.Sums.{total_over_views-set, total_over_views-set_same, total_over_views-le, total_over_views-le_each, one-le-total_over_views, total_over_views-plus}
use Rattle.ultra_board.proofs.Claim.{all_sound}

after_passes : (words : List ℕ) (n : ℕ) → length words ≡ 3 → (slice_index (slice_set words 2 n) 0 ≡ slice_index words 0) × (slice_index (slice_set words 2 n) 1 ≡ slice_index words 1) × (slice_index (slice_set words 2 n) 2 ≡ n) × (length (slice_set words 2 n) ≡ 3)
after_passes words n three = (get_or-set_other words 2 0 n 0 (omega arith), get_or-set_other words 2 1 n 0 (omega arith), get_or-set_same words 2 n 0 (omega arith), length-set words 2 n ∙ three)

module _ (k : Limits) (s : State ℕ View) (h : IsBoardRule k s) (place : ℕ) (v : View) (e : get_elem? s.views place ≡ some v) (some_place : 0 < v.places) where
  same : (f : View → ℕ) (w : View) → f w ≡ f v → total_over_views f (set s.views place w) ≡ total_over_views f s.views
  same f w q = total_over_views-set_same f s.views place v w e q

  -- there are no more tries than places
  few_passes : slice_index s.words 2 ≤ k.bound + k.seats
  few_passes =
      let tries = total_over_views-le_each (λ (v : View). v.held + v.tries) (λ (v : View). v.held + v.places) s.views (λ other u q. let one = (h.views other u q).one_try in omega arith) in
      let apart = total_over_views-plus (λ (v : View). v.held) (λ (v : View). v.places) s.views in
      let all = h.passes in
      let held = h.bounded in
      let seats = h.places in
      omega arith

  -- passes becomes n, and of the view the passes held, the tries, and what is counted
  passes_become : (n held tries full loads adds : ℕ) → n + (v.held + v.tries) ≡ slice_index s.words 2 + (held + tries) → tries ≤ 1 → total_over_views (λ (v : View). v.held) s.views + held ≤ k.bound + v.held
      → IsBoardRule k record { words = slice_set s.words 2 n; homes = s.homes; views = slice_set s.views place (record v { held = held; tries = tries; full = full; loads = loads; adds = adds }) }
  passes_become n held tries full loads adds balance one within =
      let w : View = record v { held = held; tries = tries; full = full; loads = loads; adds = adds } in
      let at = after_passes s.words n h.words in
      let mine = h.views place v e in
      record {
        limits = h.limits;
        words = at.3;
        drawn = λ i. rw (at.0, same (λ (v : View). times i v.drawn) w refl) (h.drawn i);
        drawn_count = rw (at.0, same (λ (v : View). length v.drawn) w refl) h.drawn_count;
        claims = rw (at.0, same (λ (v : View). v.claims) w refl) h.claims;
        claim = rw (at.0, same spent_places w refl) h.claim;
        done = rw (at.1, same (λ (v : View). length v.finished) w refl) h.done;
        passes = let sum = total_over_views-set (λ (v : View). v.held + v.tries) s.views place v w e in let before = h.passes in rw at.2 (omega arith);
        bounded = let sum = total_over_views-set (λ (v : View). v.held) s.views place v w e in let before = h.bounded in omega arith;
        places = rw (same (λ (v : View). v.places) w refl) h.places;
        views = rw (at.0, at.1) (all_sound k s.views place w (slice_index s.words 0) (slice_index s.words 1) (slice_index s.words 0) (slice_index s.words 1) h.views (omega arith) (omega arith) record {
          finished = mine.finished;
          seen = mine.seen;
          spent = mine.spent;
          one_try = omega arith;
          limits = mine.limits;
          no_seat = λ q. absurd (omega arith);
        });
      }

  same_bound : v.bound ≡ k.bound
  same_bound = ((h.views place v e).limits some_place).1

  pub loads_passes : v.tries ≡ 0 → (w : View) × IsBoardRule k record { words = slice_set s.words 2 (slice_index s.words 2); homes = s.homes; views = slice_set s.views place w } × LoadsPasses v (slice_index s.words 2) w
  loads_passes no_try =
      let n = slice_index s.words 2 in
      let within = h.bounded in
      elim (dec_le v.bound n) [
        | yes le ↦ (record v { full = v.full + 1; loads = v.loads + 1 }, passes_become n v.held v.tries (v.full + 1) (v.loads + 1) v.adds refl (omega arith) (omega arith), record { free = λ lt. absurd (omega arith); full = λ q. refl })
        | no ne ↦ (record v { loads = v.loads + 1 }, passes_become n v.held v.tries v.full (v.loads + 1) v.adds refl (omega arith) (omega arith), record { free = λ q. refl; full = λ q. absurd (omega arith) })
      ]

  -- where the word is below the bound, fewer passes are held than the bound allows
  pub adds_to_passes : v.tries ≡ 0 → (w : View) × IsBoardRule k record { words = slice_set s.words 2 ((slice_index s.words 2 + 1) % 2 ^ 64); homes = s.homes; views = slice_set s.views place w } × AddsToPasses v (slice_index s.words 2) w
  adds_to_passes no_try =
      let n = slice_index s.words 2 in
      let few = few_passes in
      let small = h.limits.bound in
      let few_seats = h.limits.seats in
      let within = h.bounded in
      let all = h.passes in
      let no_wrap : (n + 1) % 2 ^ 64 ≡ n + 1 = omega arith in
      let held_le = total_over_views-le (λ (v : View). v.held) (λ (v : View). v.held + v.tries) s.views (λ v. omega arith) in
      let bound = same_bound in
      elim (dec_le v.bound n) [
        | yes le ↦ (record v { tries = v.tries + 1; full = v.full + 1; adds = v.adds + 1 }, rw no_wrap (passes_become (n + 1) v.held (v.tries + 1) (v.full + 1) v.loads (v.adds + 1) (omega arith) (omega arith) (omega arith)), record { free = λ lt. absurd (omega arith); full = λ q. refl })
        | no ne ↦ (record v { held = v.held + 1; adds = v.adds + 1 }, rw no_wrap (passes_become (n + 1) (v.held + 1) v.tries v.full v.loads (v.adds + 1) (omega arith) (omega arith) (omega arith)), record { free = λ q. refl; full = λ q. absurd (omega arith) })
      ]

  -- the word after a subtraction, which doesn't wrap where the seat holds a pass or has a try under way
  one_less : 0 < v.held + v.tries → (slice_index s.words 2 + (2 ^ 64 - 1)) % 2 ^ 64 ≡ slice_index s.words 2 - 1
  one_less some_pass =
      let mine = one-le-total_over_views (λ (v : View). v.held + v.tries) s.views place v e in
      let all = h.passes in
      let few = few_passes in
      let small = h.limits.bound in
      let few_seats = h.limits.seats in
      omega arith

  undoes_try : v.tries ≡ 1 → (w : View) × IsBoardRule k record { words = slice_set s.words 2 ((slice_index s.words 2 + (2 ^ 64 - 1)) % 2 ^ 64); homes = s.homes; views = slice_set s.views place w } × SubtractsFromPasses v w
  undoes_try one =
      let n = slice_index s.words 2 in
      let mine = one-le-total_over_views (λ (v : View). v.held + v.tries) s.views place v e in
      let all = h.passes in
      let within = h.bounded in
      let less = one_less (omega arith) in
      (record v { tries = v.tries - 1 }, rw less (passes_become (n - 1) v.held (v.tries - 1) v.full v.loads v.adds (omega arith) (omega arith) (omega arith)), record { undone = λ q. refl; left = λ q. absurd (omega arith) })

  gives_back : v.tries ≡ 0 → 0 < v.held → (w : View) × IsBoardRule k record { words = slice_set s.words 2 ((slice_index s.words 2 + (2 ^ 64 - 1)) % 2 ^ 64); homes = s.homes; views = slice_set s.views place w } × SubtractsFromPasses v w
  gives_back no_try some_pass =
      let n = slice_index s.words 2 in
      let mine = one-le-total_over_views (λ (v : View). v.held + v.tries) s.views place v e in
      let all = h.passes in
      let within = h.bounded in
      let less = one_less (omega arith) in
      (record v { held = v.held - 1 }, rw less (passes_become (n - 1) (v.held - 1) v.tries v.full v.loads v.adds (omega arith) (omega arith) (omega arith)), record { undone = λ q. absurd (omega arith); left = λ q. refl })

  pub subtracts_from_passes : 0 < v.held + v.tries → v.tries ≤ 1 → (w : View) × IsBoardRule k record { words = slice_set s.words 2 ((slice_index s.words 2 + (2 ^ 64 - 1)) % 2 ^ 64); homes = s.homes; views = slice_set s.views place w } × SubtractsFromPasses v w
  subtracts_from_passes some_pass one_try = elim (dec_le 1 v.tries) [ yes le ↦ undoes_try (omega arith) | no ne ↦ gives_back (omega arith) (omega arith) ]
