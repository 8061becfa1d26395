-- a split and a join keep the rule
use Rattle.std.proofs.Common.{◌≡◌, ℕ, ◌+◌, ◌-◌, ◌<◌, ◌≤◌, ◌⊎◌, [], ◌∷◌, ◌++◌, Bool, true, false, length, set, refl, subst, arith, ⊎_elim, inl, inr, length-append}
use Rattle.std.specs.Prelude.{slice_index, if◌then◌else◌, ◌||◌}
use lib.ListN.{get_elem?}
use mathlib.Core.Option.{some}
use Rattle.atomic_table.proofs.Lists.{at_set, at_snoc}
use Rattle.atomic_table.specs.Table.{State}
use Rattle.ultra_board.specs.{declared.rule.{View.View, Limits.Limits}, Rule.{IsBoardRule, IsSoundView}}
use Rattle.ultra_board.specs.View.{total_over_views, times, spent_places, second_view, joined_view, no_view}
use Rattle.ultra_board.proofs.{Sums.{total_over_views-set, total_over_views-push}, Times.times-append}

split_spent : (b : Bool) (places : ℕ) → 2 ≤ places → (if b then places - 1 else 0) + (if b then 1 else 0) ≡ (if b then places else 0)
split_spent true places two = omega arith
split_spent false places two = omega arith

-- a seat with two places or more is split
module _ (k : Limits) (s : State ℕ View) (h : IsBoardRule k s) (place : ℕ) (v : View) (e : get_elem? s.views place ≡ some v) (two : 2 ≤ v.places) (no_try : v.tries ≡ 0) where
  total_after : (f : View → ℕ) → total_over_views f (set s.views place (record v { places = v.places - 1 }) ++ second_view v ∷ []) + f v ≡ total_over_views f s.views + (f (record v { places = v.places - 1 }) + f (second_view v))
  total_after f =
      let w : View = record v { places = v.places - 1 } in
      let changed = total_over_views-set f s.views place v w e in
      let pushed = total_over_views-push f (set s.views place w) (second_view v) in
      omega arith

  second_sound : IsSoundView k (slice_index s.words 0) (slice_index s.words 1) (second_view v)
  second_sound = let mine = h.views place v e in record {
    finished = λ i. omega arith;
    seen = omega arith;
    spent = mine.spent;
    one_try = omega arith;
    limits = λ q. mine.limits (omega arith);
    no_seat = λ q. absurd (omega arith);
  }

  first_sound : IsSoundView k (slice_index s.words 0) (slice_index s.words 1) (record v { places = v.places - 1 })
  first_sound = let mine = h.views place v e in record {
    finished = mine.finished;
    seen = mine.seen;
    spent = mine.spent;
    one_try = omega arith;
    limits = λ q. mine.limits (omega arith);
    no_seat = λ q. absurd (omega arith);
  }

  pub splits : IsBoardRule k record { words = s.words; homes = s.homes; views = set s.views place (record v { places = v.places - 1 }) ++ second_view v ∷ [] }
  splits =
      let w : View = record v { places = v.places - 1 } in
      let Sound : View → Type 0 = λ u. IsSoundView k (slice_index s.words 0) (slice_index s.words 1) u in
      record {
        limits = h.limits;
        words = h.words;
        drawn = λ i. let t = total_after (λ (v : View). times i v.drawn) in let before = h.drawn i in omega arith;
        drawn_count = let t = total_after (λ (v : View). length v.drawn) in let before = h.drawn_count in omega arith;
        claims = let t = total_after (λ (v : View). v.claims) in let before = h.claims in omega arith;
        claim = let t = total_after spent_places in let parts = split_spent v.spent v.places two in let before = h.claim in omega arith;
        done = let t = total_after (λ (v : View). length v.finished) in let before = h.done in omega arith;
        passes = let t = total_after (λ (v : View). v.held + v.tries) in let before = h.passes in omega arith;
        bounded = let t = total_after (λ (v : View). v.held) in let before = h.bounded in omega arith;
        places = let t = total_after (λ (v : View). v.places) in let before = h.places in omega arith;
        views = λ other u g. ⊎_elim
            (λ g. ⊎_elim (λ t. subst Sound t.1 first_sound) (λ t. h.views other u t.1) (at_set s.views place other w u g))
            (λ q. subst Sound q second_sound)
            (at_snoc (set s.views place w) (second_view v) u other g);
      }

both_spent : (a b : Bool) (m n : ℕ) → (if a then m else 0) + (if b then n else 0) ≤ (if a || b then m + n else 0)
both_spent true true m n = omega arith
both_spent true false m n = omega arith
both_spent false true m n = omega arith
both_spent false false m n = omega arith

or_true : (a b : Bool) → (a || b) ≡ true → (a ≡ true) ⊎ (b ≡ true)
or_true true b h = inl refl
or_true false b h = inr h

-- two seats are joined
module _ (k : Limits) (s : State ℕ View) (h : IsBoardRule k s) (place other : ℕ) (v u : View) (e : get_elem? s.views place ≡ some v) (apart : ¬ (other ≡ place))
    (d : get_elem? (set s.views place (joined_view v u)) other ≡ some u) (some_place : 0 < v.places) (no_try : (v.tries ≡ 0) × (u.tries ≡ 0)) where
  theirs : IsSoundView k (slice_index s.words 0) (slice_index s.words 1) u
  theirs = ⊎_elim (λ t. absurd (apart t.0)) (λ t. h.views other u t.1) (at_set s.views place other (joined_view v u) u d)

  total_joined : (f : View → ℕ) → f no_view ≡ 0 → total_over_views f (set (set s.views place (joined_view v u)) other no_view) + (f v + f u) ≡ total_over_views f s.views + f (joined_view v u)
  total_joined f none =
      let one = total_over_views-set f s.views place v (joined_view v u) e in
      let two = total_over_views-set f (set s.views place (joined_view v u)) other u no_view d in
      omega arith

  nobody_sound : IsSoundView k (slice_index s.words 0) (slice_index s.words 1) no_view
  nobody_sound = record {
    finished = λ i. omega arith;
    seen = omega arith;
    spent = λ q. cc;
    one_try = omega arith;
    limits = λ q. absurd (omega arith);
    no_seat = λ q. (refl, refl, refl);
  }

  both_sound : IsSoundView k (slice_index s.words 0) (slice_index s.words 1) (joined_view v u)
  both_sound = let mine = h.views place v e in record {
    finished = λ i.
        let a = mine.finished i in
        let b = theirs.finished i in
        let drawn = times-append i v.drawn u.drawn in
        let finished = times-append i v.finished u.finished in
        omega arith;
    seen = let a = mine.seen in let b = theirs.seen in omega arith;
    spent = λ q. ⊎_elim mine.spent theirs.spent (or_true v.spent u.spent q);
    one_try = omega arith;
    limits = λ q. mine.limits some_place;
    no_seat = λ q. absurd (omega arith);
  }

  pub joins : IsBoardRule k record { words = s.words; homes = s.homes; views = set (set s.views place (joined_view v u)) other no_view }
  joins =
      let Sound : View → Type 0 = λ w. IsSoundView k (slice_index s.words 0) (slice_index s.words 1) w in
      record {
        limits = h.limits;
        words = h.words;
        drawn = λ i. let t = total_joined (λ (v : View). times i v.drawn) refl in let both = times-append i v.drawn u.drawn in let before = h.drawn i in omega arith;
        drawn_count = let t = total_joined (λ (v : View). length v.drawn) refl in let both = length-append v.drawn u.drawn in let before = h.drawn_count in omega arith;
        claims = let t = total_joined (λ (v : View). v.claims) refl in let before = h.claims in omega arith;
        claim = let t = total_joined spent_places refl in let both = both_spent v.spent u.spent v.places u.places in let before = h.claim in omega arith;
        done = let t = total_joined (λ (v : View). length v.finished) refl in let both = length-append v.finished u.finished in let before = h.done in omega arith;
        passes = let t = total_joined (λ (v : View). v.held + v.tries) refl in let before = h.passes in omega arith;
        bounded = let t = total_joined (λ (v : View). v.held) refl in let before = h.bounded in omega arith;
        places = let t = total_joined (λ (v : View). v.places) refl in let before = h.places in omega arith;
        views = λ n w g. ⊎_elim
            (λ t. subst Sound t.1 nobody_sound)
            (λ t. ⊎_elim (λ t. subst Sound t.1 both_sound) (λ t. h.views n w t.1) (at_set s.views place n (joined_view v u) w t.1))
            (at_set (set s.views place (joined_view v u)) other n no_view w g);
      }
