-- what the words are when one seat has all places
use Rattle.std.proofs.Common.{◌≡◌, ℕ, zero, suc, ◌+◌, List, [], ◌∷◌, length, refl, sym, ap, arith, min, ◌∙◌}
use Rattle.std.specs.Prelude.{slice_index}
use lib.ListN.{get_elem?}
use mathlib.Core.Option.{some, some-injective, some-ne-none}
use Rattle.atomic_table.specs.Table.{State, Final, Seen}
use Rattle.ultra_board.specs.{declared.rule.{View.View, Limits.Limits}, View.{total_over_views, times, times_below, spent_places}, Seat.IsTotal, Rule.IsBoardRule}
use Rattle.ultra_board.proofs.{Sums.{total_over_views-alone, spent_places-le}, Times.length-within_none}

module _ (k : Limits) (s : State ℕ View) (h : IsBoardRule k s) (place : ℕ) (v : View) (e : get_elem? s.views place ≡ some v) (all : v.places ≡ k.seats) (no_try : v.tries ≡ 0) where
  sole : (f : View → ℕ) → ((other : ℕ) (u : View) → get_elem? s.views other ≡ some u → u.places ≡ 0 → f u ≡ 0) → total_over_views f s.views ≡ f v
  sole f none = total_over_views-alone f s.views place v e none (h.places ∙ sym all)

  none_drawn : (f : List ℕ → ℕ) → f [] ≡ 0 → (other : ℕ) (u : View) → get_elem? s.views other ≡ some u → u.places ≡ 0 → f u.drawn ≡ 0
  none_drawn f none other u q empty = ap f ((h.views other u q).no_seat empty).0 ∙ none

  none_held : (other : ℕ) (u : View) → get_elem? s.views other ≡ some u → u.places ≡ 0 → u.held + u.tries ≡ 0
  none_held other u q empty = let its = h.views other u q in let one = its.one_try in let held = (its.no_seat empty).2 in omega arith

  pub total_of_all : IsTotal v (slice_index s.words 0) (slice_index s.words 1) (slice_index s.words 2)
  total_of_all =
      let mine = h.views place v e in
      let some_seat = h.limits.some_seat in
      let limits = mine.limits (omega arith) in
      let drawn_count = sole (λ (v : View). length v.drawn) (none_drawn (λ (xs : List ℕ). length xs) refl) in
      let finished = sole (λ (v : View). length v.finished) (λ other u q empty. let its = h.views other u q in length-within_none u.finished u.drawn (its.no_seat empty).0 its.finished) in
      let passes = sole (λ (v : View). v.held + v.tries) none_held in
      let held = sole (λ (v : View). v.held) (λ other u q empty. ((h.views other u q).no_seat empty).2) in
      let spent = sole spent_places (λ other u q empty. let le = spent_places-le u in omega arith) in
      let count = h.drawn_count in
      let count' : min (slice_index s.words 0) k.limit ≡ length v.drawn = omega arith in
      record {
        asked = h.claims ∙ sole (λ (v : View). v.claims) (λ other u q empty. ((h.views other u q).no_seat empty).1);
        claimed = omega arith;
        spent = λ q. let past = mine.spent q in omega arith;
        most_claimed = let most = h.claim in omega arith;
        each_once = λ i.
            let each = h.drawn i in
            let here = sole (λ (v : View). times i v.drawn) (none_drawn (λ (xs : List ℕ). times i xs) refl) in
            sym here ∙ (each ∙ ap (times_below i) count');
        finished = let d = h.done in omega arith;
        finished_once = mine.finished;
        held = let p = h.passes in omega arith;
        bounded = let b = h.bounded in omega arith;
      }

word_is : (words : List ℕ) (i n : ℕ) → get_elem? words i ≡ some n → slice_index words i ≡ n
word_is [] i n e = absurd (some-ne-none n (sym e))
word_is (w ∷ ws) zero n e = some-injective w n e
word_is (w ∷ ws) (suc i) n e = word_is ws i n e

-- the words of a table that was closed by a seat with all places
pub closing : (k : Limits) (place : ℕ) (v : View) (words slots : List ℕ) → Final (Seen (IsBoardRule k) place v) words slots → v.places ≡ k.seats → v.tries ≡ 0
    → (claim done passes : ℕ) → get_elem? words 0 ≡ some claim → get_elem? words 1 ≡ some done → get_elem? words 2 ≡ some passes → IsTotal v claim done passes
closing k place v words slots final all no_try claim done passes at_0 at_1 at_2 =
    let s = final.0 in
    let word : (i n : ℕ) → get_elem? words i ≡ some n → slice_index s.words i ≡ n = λ i n e. ap (λ (ws : List ℕ). slice_index ws i) final.2 ∙ word_is words i n e in
    rw (sym (word 0 claim at_0), sym (word 1 done at_1), sym (word 2 passes at_2)) (total_of_all k s final.1.0 place v final.1.1 all no_try)
