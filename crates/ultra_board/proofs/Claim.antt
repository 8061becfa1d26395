-- the steps on claim keep the rule
use Rattle.std.proofs.Common.{◌≡◌, ℕ, ◌+◌, ◌%◌, ◌^◌, ◌<◌, ◌≤◌, List, [], ◌∷◌, ◌++◌, true, false, length, set, refl, subst, arith, ⊎_elim, get_or-set_same, get_or-set_other, min, ◌∙◌, length-append}
use Rattle.std.proofs.{lemmas.List.set-get_or, Math.ListN.length-set}
use Rattle.std.specs.Prelude.{slice_index, slice_set}
use lib.ListN.{get_elem?}
use native.Mathlib.Decide.{dec_le}
use mathlib.Core.Option.{some}
use Rattle.atomic_table.proofs.Lists.{at_set}
use Rattle.atomic_table.specs.Table.{State}
use Rattle.ultra_board.specs.{declared.rule.{View.View, Limits.Limits}, View.{total_over_views, times, spent_places}, Step.{AddsToClaim, LoadsClaim}, Rule.{IsBoardRule, IsSoundView}}
use Rattle.ultra_board.proofs.{Sums.{total_over_views-set, total_over_views-set_same, one-le-total_over_views, spent_places-beside}, Times.{times-push, times_below-le, times_below-more, times_below-itself, not_contained-times}}

-- the words after an add to claim
pub after_claim : (words : List ℕ) (n : ℕ) → length words ≡ 3 → (slice_index (slice_set words 0 n) 0 ≡ n) × (slice_index (slice_set words 0 n) 1 ≡ slice_index words 1) × (slice_index (slice_set words 0 n) 2 ≡ slice_index words 2) × (length (slice_set words 0 n) ≡ 3)
after_claim words n three = (get_or-set_same words 0 n 0 (omega arith), get_or-set_other words 0 1 n 0 (omega arith), get_or-set_other words 0 2 n 0 (omega arith), length-set words 0 n ∙ three)

-- all views are sound, where one changes and the words claim and done don't fall
pub all_sound : (k : Limits) (vs : List View) (place : ℕ) (w : View) (claim done claim' done' : ℕ) → ((other : ℕ) (u : View) → get_elem? vs other ≡ some u → IsSoundView k claim done u)
    → claim ≤ claim' → done ≤ done' → IsSoundView k claim' done' w → (other : ℕ) (u : View) → get_elem? (set vs place w) other ≡ some u → IsSoundView k claim' done' u
all_sound k vs place w claim done claim' done' sound le le' mine other u e =
    ⊎_elim (λ t. subst (λ x. IsSoundView k claim' done' x) t.1 mine)
    (λ t. let g = sound other u t.1 in record {
      finished = g.finished;
      seen = let s = g.seen in omega arith;
      spent = λ q. let s = g.spent q in omega arith;
      one_try = g.one_try;
      limits = g.limits;
      no_seat = g.no_seat;
    })
    (at_set vs place other w u e)

module _ (k : Limits) (s : State ℕ View) (h : IsBoardRule k s) (place : ℕ) (v : View) (e : get_elem? s.views place ≡ some v) where
  same : (f : View → ℕ) (w : View) → f w ≡ f v → total_over_views f (set s.views place w) ≡ total_over_views f s.views
  same f w q = total_over_views-set_same f s.views place v w e q

  -- a number that claim hands out is in no view
  fresh : slice_index s.words 0 < k.limit → times (slice_index s.words 0) v.drawn ≡ 0
  fresh lt =
      let n = slice_index s.words 0 in
      let mine = one-le-total_over_views (λ (v : View). times n v.drawn) s.views place v e in
      let all = h.drawn n in
      let below : min n k.limit ≡ n = omega arith in
      let all' = rw below at all in
      let none = times_below-itself n in
      omega arith

  drawn : 0 < v.places → slice_index s.words 0 < k.limit
      → IsBoardRule k record { words = slice_set s.words 0 (slice_index s.words 0 + 1); homes = s.homes; views = slice_set s.views place (record v { drawn = v.drawn ++ slice_index s.words 0 ∷ []; claims = v.claims + 1 }) }
  drawn some_place lt =
      let n = slice_index s.words 0 in
      let w : View = record v { drawn = v.drawn ++ n ∷ []; claims = v.claims + 1 } in
      let mine = h.views place v e in
      let at = after_claim s.words (n + 1) h.words in
      record {
        limits = h.limits;
        words = at.3;
        drawn = λ i.
            let sum = total_over_views-set (λ (v : View). times i v.drawn) s.views place v w e in
            let push = times-push i n v.drawn in
            let before = h.drawn i in
            let more = times_below-more i n k.limit lt in
            rw at.0 (omega arith);
        drawn_count =
            let sum = total_over_views-set (λ (v : View). length v.drawn) s.views place v w e in
            let push = length-append v.drawn (n ∷ []) in
            let before = h.drawn_count in
            rw at.0 (omega arith);
        claims = let sum = total_over_views-set (λ (v : View). v.claims) s.views place v w e in let before = h.claims in rw at.0 (omega arith);
        claim = rw (at.0, same spent_places w refl) (omega arith);
        done = rw (at.1, same (λ (v : View). length v.finished) w refl) h.done;
        passes = rw (at.2, same (λ (v : View). v.held + v.tries) w refl) h.passes;
        bounded = rw (same (λ (v : View). v.held) w refl) h.bounded;
        places = rw (same (λ (v : View). v.places) w refl) h.places;
        views = rw (at.0, at.1) (all_sound k s.views place w n (slice_index s.words 1) (n + 1) (slice_index s.words 1) h.views (omega arith) (omega arith) record {
          finished = λ i. let f = mine.finished i in let push = times-push i n v.drawn in omega arith;
          seen = mine.seen;
          spent = λ q. let z = mine.spent q in omega arith;
          one_try = mine.one_try;
          limits = mine.limits;
          no_seat = λ q. absurd (omega arith);
        });
      }

  spent : v.spent ≡ false → 0 < v.places → k.limit ≤ slice_index s.words 0
      → IsBoardRule k record { words = slice_set s.words 0 (slice_index s.words 0 + 1); homes = s.homes; views = slice_set s.views place (record v { spent = true; claims = v.claims + 1 }) }
  spent unspent some_place le =
      let n = slice_index s.words 0 in
      let w : View = record v { spent = true; claims = v.claims + 1 } in
      let mine = h.views place v e in
      let at = after_claim s.words (n + 1) h.words in
      record {
        limits = h.limits;
        words = at.3;
        drawn = λ i.
            let before = h.drawn i in
            let next : min (n + 1) k.limit ≡ k.limit = omega arith in
            let this : min n k.limit ≡ k.limit = omega arith in
            let before' = rw this at before in
            rw (at.0, same (λ (v : View). times i v.drawn) w refl, next) before';
        drawn_count = let before = h.drawn_count in rw (at.0, same (λ (v : View). length v.drawn) w refl) (omega arith);
        claims = let sum = total_over_views-set (λ (v : View). v.claims) s.views place v w e in let before = h.claims in rw at.0 (omega arith);
        claim =
            let sum = total_over_views-set spent_places s.views place v w e in
            let none : spent_places v ≡ 0 = rw unspent refl in
            let before = h.claim in
            rw at.0 (omega arith);
        done = rw (at.1, same (λ (v : View). length v.finished) w refl) h.done;
        passes = rw (at.2, same (λ (v : View). v.held + v.tries) w refl) h.passes;
        bounded = rw (same (λ (v : View). v.held) w refl) h.bounded;
        places = rw (same (λ (v : View). v.places) w refl) h.places;
        views = rw (at.0, at.1) (all_sound k s.views place w n (slice_index s.words 1) (n + 1) (slice_index s.words 1) h.views (omega arith) (omega arith) record {
          finished = mine.finished;
          seen = mine.seen;
          spent = λ q. omega arith;
          one_try = mine.one_try;
          limits = mine.limits;
          no_seat = λ q. absurd (omega arith);
        });
      }

  -- an add by a seat that isn't spent draws a number or spends the seat, and the word doesn't wrap
  pub adds_to_claim : 0 < v.places → v.spent ≡ false
      → (w : View) × IsBoardRule k record { words = slice_set s.words 0 ((slice_index s.words 0 + 1) % 2 ^ 64); homes = s.homes; views = slice_set s.views place w } × AddsToClaim v (slice_index s.words 0) w
  adds_to_claim some_place unspent =
      let n = slice_index s.words 0 in
      let beside = spent_places-beside s.views place v e unspent in
      let most = h.claim in
      let all = h.places in
      let small = h.limits.limit in
      let few = h.limits.seats in
      let no_wrap : (n + 1) % 2 ^ 64 ≡ n + 1 = omega arith in
      let limit = ((h.views place v e).limits some_place).0 in
      elim (dec_le k.limit n) [
        | yes le ↦ (record v { spent = true; claims = v.claims + 1 }, rw no_wrap (spent unspent some_place le), record { drawn = λ lt. absurd (omega arith); fresh = λ lt. absurd (omega arith); unfinished = λ lt. absurd (omega arith); spent = λ q. refl })
        | no ne ↦ let lt : n < k.limit = omega arith in (record v { drawn = v.drawn ++ n ∷ []; claims = v.claims + 1 }, rw no_wrap (drawn some_place lt), record { drawn = λ q. refl; fresh = λ q. not_contained-times n v.drawn (fresh lt); unfinished = λ q. not_contained-times n v.finished (let none = fresh lt in let le = (h.views place v e).finished n in omega arith); spent = λ q. absurd (omega arith) })
      ]

  loaded_words : (w : View) → IsBoardRule k record { words = s.words; homes = s.homes; views = set s.views place w } → IsBoardRule k record { words = slice_set s.words 0 (slice_index s.words 0); homes = s.homes; views = set s.views place w }
  loaded_words w kept = rw (set-get_or s.words 0 0) kept

  pub loads_claim : (w : View) × IsBoardRule k record { words = slice_set s.words 0 (slice_index s.words 0); homes = s.homes; views = slice_set s.views place w } × LoadsClaim v w
  loads_claim =
      let n = slice_index s.words 0 in
      let w : View = record v { claim_loads = v.claim_loads + 1 } in
      let its = h.views place v e in
      let mine = one-le-total_over_views (λ (v : View). v.places) s.views place v e in
      let all = h.places in
      let few = h.limits.seats in (
        w,
        loaded_words w record {
          limits = h.limits;
          words = h.words;
          drawn = λ i. rw (same (λ (v : View). times i v.drawn) w refl) (h.drawn i);
          drawn_count = rw (same (λ (v : View). length v.drawn) w refl) h.drawn_count;
          claims = rw (same (λ (v : View). v.claims) w refl) h.claims;
          claim = rw (same spent_places w refl) h.claim;
          done = rw (same (λ (v : View). length v.finished) w refl) h.done;
          passes = rw (same (λ (v : View). v.held + v.tries) w refl) h.passes;
          bounded = rw (same (λ (v : View). v.held) w refl) h.bounded;
          places = rw (same (λ (v : View). v.places) w refl) h.places;
          views = all_sound k s.views place w n (slice_index s.words 1) n (slice_index s.words 1) h.views (omega arith) (omega arith) record {
            finished = its.finished;
            seen = its.seen;
            spent = its.spent;
            one_try = its.one_try;
            limits = its.limits;
            no_seat = its.no_seat;
          };
        },
        record {
          view = refl;
          places = omega arith;
          once = λ i.
              let mine = one-le-total_over_views (λ (v : View). times i v.drawn) s.views place v e in
              let all = h.drawn i in
              let one = times_below-le i (min n k.limit) in
              omega arith;
        },
      )
