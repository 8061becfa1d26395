-- an add to done and a load of done keep the rule
use Rattle.std.proofs.Common.{◌≡◌, ℕ, ◌+◌, ◌%◌, ◌^◌, ◌<◌, ◌≤◌, List, [], ◌∷◌, ◌++◌, length, set, refl, arith, get_or-set_same, get_or-set_other, ◌∙◌, length-append}
use Rattle.std.proofs.{lemmas.List.set-get_or, Math.ListN.length-set}
use Rattle.std.specs.Prelude.{slice_index, slice_set, Contains}
use lib.ListN.{get_elem?}
use mathlib.Core.Option.{some}
use Rattle.atomic_table.specs.Table.{State}
use Rattle.ultra_board.specs.{declared.rule.{View.View, Limits.Limits}, View.{total_over_views, times, spent_places}, Step.{AddsToDone, LoadsDone}, Rule.IsBoardRule}
use Rattle.ultra_board.proofs.{Sums.{total_over_views-set, total_over_views-set_same, total_over_views-le_each, one-le-total_over_views}, Times.{length-within, one_more_within, times-contained, times-not_contained}, Claim.all_sound}

after_done : (words : List ℕ) (n : ℕ) → length words ≡ 3 → (slice_index (slice_set words 1 n) 0 ≡ slice_index words 0) × (slice_index (slice_set words 1 n) 1 ≡ n) × (slice_index (slice_set words 1 n) 2 ≡ slice_index words 2) × (length (slice_set words 1 n) ≡ 3)
after_done words n three = (get_or-set_other words 1 0 n 0 (omega arith), get_or-set_same words 1 n 0 (omega arith), get_or-set_other words 1 2 n 0 (omega arith), length-set words 1 n ∙ three)

module _ (k : Limits) (s : State ℕ View) (h : IsBoardRule k s) (place : ℕ) (v : View) (e : get_elem? s.views place ≡ some v) where
  same : (f : View → ℕ) (w : View) → f w ≡ f v → total_over_views f (set s.views place w) ≡ total_over_views f s.views
  same f w q = total_over_views-set_same f s.views place v w e q

  -- a seat's own numbers finished are among all of them
  own : length v.finished ≤ slice_index s.words 1
  own = let mine = one-le-total_over_views (λ (v : View). length v.finished) s.views place v e in let all = h.done in omega arith

  loaded_words : (w : View) → IsBoardRule k record { words = s.words; homes = s.homes; views = set s.views place w } → IsBoardRule k record { words = slice_set s.words 1 (slice_index s.words 1); homes = s.homes; views = set s.views place w }
  loaded_words w kept = rw (set-get_or s.words 1 0) kept

  pub loads_done : (w : View) × IsBoardRule k record { words = slice_set s.words 1 (slice_index s.words 1); homes = s.homes; views = slice_set s.views place w } × LoadsDone v (slice_index s.words 1) w
  loads_done =
      let n = slice_index s.words 1 in
      let w : View = record v { seen = n; reads = v.reads + 1 } in
      let mine = h.views place v e in (
        w,
        loaded_words w record {
          limits = h.limits;
          words = h.words;
          drawn = λ i. rw (same (λ (v : View). times i v.drawn) w refl) (h.drawn i);
          drawn_count = rw (same (λ (v : View). length v.drawn) w refl) h.drawn_count;
          claims = rw (same (λ (v : View). v.claims) w refl) h.claims;
          claim = rw (same spent_places w refl) h.claim;
          done = rw (same (λ (v : View). length v.finished) w refl) h.done;
          passes = rw (same (λ (v : View). v.held + v.tries) w refl) h.passes;
          bounded = rw (same (λ (v : View). v.held) w refl) h.bounded;
          places = rw (same (λ (v : View). v.places) w refl) h.places;
          views = all_sound k s.views place w (slice_index s.words 0) n (slice_index s.words 0) n h.views (omega arith) (omega arith) record {
            finished = mine.finished;
            seen = omega arith;
            spent = mine.spent;
            one_try = mine.one_try;
            limits = mine.limits;
            no_seat = mine.no_seat;
          };
        },
        record { view = refl; later = mine.seen; own = own },
      )

  -- no more numbers are finished than were drawn
  few_done : slice_index s.words 1 ≤ k.limit
  few_done =
      let within = total_over_views-le_each (λ (v : View). length v.finished) (λ (v : View). length v.drawn) s.views (λ other u q. length-within u.finished u.drawn (h.views other u q).finished) in
      let all_drawn = h.drawn_count in
      let all_done = h.done in
      omega arith

  finished : (i : ℕ) → times i v.finished < times i v.drawn
      → IsBoardRule k record { words = slice_set s.words 1 (slice_index s.words 1 + 1); homes = s.homes; views = slice_set s.views place (record v { finished = v.finished ++ i ∷ []; seen = slice_index s.words 1 + 1 }) }
  finished i room =
      let n = slice_index s.words 1 in
      let w : View = record v { finished = v.finished ++ i ∷ []; seen = n + 1 } in
      let mine = h.views place v e in
      let at = after_done s.words (n + 1) h.words in
      record {
        limits = h.limits;
        words = at.3;
        drawn = λ j. rw (at.0, same (λ (v : View). times j v.drawn) w refl) (h.drawn j);
        drawn_count = rw (at.0, same (λ (v : View). length v.drawn) w refl) h.drawn_count;
        claims = rw (at.0, same (λ (v : View). v.claims) w refl) h.claims;
        claim = rw (at.0, same spent_places w refl) h.claim;
        done =
            let sum = total_over_views-set (λ (v : View). length v.finished) s.views place v w e in
            let push = length-append v.finished (i ∷ []) in
            let before = h.done in
            rw at.1 (omega arith);
        passes = rw (at.2, same (λ (v : View). v.held + v.tries) w refl) h.passes;
        bounded = rw (same (λ (v : View). v.held) w refl) h.bounded;
        places = rw (same (λ (v : View). v.places) w refl) h.places;
        views = rw (at.0, at.1) (all_sound k s.views place w (slice_index s.words 0) n (slice_index s.words 0) (n + 1) h.views (omega arith) (omega arith) record {
          finished = λ j. one_more_within j i v.finished v.drawn (mine.finished j) room;
          seen = omega arith;
          spent = mine.spent;
          one_try = mine.one_try;
          limits = mine.limits;
          no_seat = mine.no_seat;
        });
      }

  -- an add by a seat that drew the number and hasn't finished it, and the word doesn't wrap
  pub adds_to_done : (i : ℕ) → Contains v.drawn i → ¬ Contains v.finished i
      → (w : View) × IsBoardRule k record { words = slice_set s.words 1 ((slice_index s.words 1 + 1) % 2 ^ 64); homes = s.homes; views = slice_set s.views place w } × AddsToDone i v (slice_index s.words 1) w
  adds_to_done i there absent =
      let n = slice_index s.words 1 in
      let some_drawn = times-contained i v.drawn there in
      let none_finished = times-not_contained i v.finished absent in
      let room : times i v.finished < times i v.drawn = omega arith in
      let few = few_done in
      let small = h.limits.limit in
      let no_wrap : (n + 1) % 2 ^ 64 ≡ n + 1 = omega arith in
      (record v { finished = v.finished ++ i ∷ []; seen = n + 1 }, rw no_wrap (finished i room), record { view = refl; later = (h.views place v e).seen; own = own })
