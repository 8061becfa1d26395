-- how far a walk over the switches of a stage has brought the counts
use Rattle.std.proofs.Common.{ℕ, ◌≡◌, ◌+◌, ◌-◌, ◌*◌, ◌/◌, ◌<◌, ◌≤◌, ◌⊎◌, inl, inr, Bool, false, List, [], ◌∷◌, length, filter, set, refl, sym, ap, ◌∙◌, arith}
use Rattle.std.specs.List.{range_with_len}
use Rattle.std.proofs.lemmas.List.{get_or-set_same, get_or-set_other, length-set}
use Rattle.ultra_statistics.specs.{Kept.{no_counts, counts_of}, declared.counts.QueueCounts.QueueCounts}
use Rattle.ultra_statistics.proofs.Walking.{IsNext, next_is, none_left}

-- a place of the list gets other counts
module _ (qs : List QueueCounts) (s x : ℕ) (q : QueueCounts) where
  pub set_here : length qs ≡ 384 → s < 6 → x < 64 → counts_of (set qs (s * 64 + x) q) s x ≡ q
  set_here count hs hx = get_or-set_same qs (s * 64 + x) q no_counts (omega (arith, count, hs, hx))

  pub set_beside : (y : ℕ) → (y ≡ x → ⊥) → counts_of (set qs (s * 64 + x) q) s y ≡ counts_of qs s y
  set_beside y apart = get_or-set_other qs (s * 64 + x) (s * 64 + y) q no_counts (λ e. apart (omega (arith, e)))

  set_above : (t y : ℕ) → t < s → x < 64 → y < 64 → counts_of (set qs (s * 64 + x) q) t y ≡ counts_of qs t y
  set_above t y ht hx hy = get_or-set_other qs (s * 64 + x) (t * 64 + y) q no_counts (λ e. omega (arith, e, ht, hx, hy))

  set_below : (t y : ℕ) → s < t → x < 64 → y < 64 → counts_of (set qs (s * 64 + x) q) t y ≡ counts_of qs t y
  set_below t y ht hx hy = get_or-set_other qs (s * 64 + x) (t * 64 + y) q no_counts (λ e. omega (arith, e, ht, hx, hy))

-- the walk over the numbers below n that pass a test; `with x q` is what q becomes at position x
pub record IsWalked (p : ℕ → Bool) (n s : ℕ) (with : ℕ → QueueCounts → QueueCounts) (left : List ℕ) (old now : List QueueCounts) : Type 0 where
  pub as_far : ℕ
  pub within : as_far ≤ n
  pub to_come : left ≡ filter p (range_with_len as_far (n - as_far))
  pub count : length now ≡ 384
  pub done : (x : ℕ) → x < 2 * as_far → counts_of now s x ≡ with x (counts_of old s x)
  pub rest : (x : ℕ) → 2 * as_far ≤ x → counts_of now s x ≡ counts_of old s x
  pub before : (t x : ℕ) → t < s → x < 64 → counts_of now t x ≡ counts_of old t x
  pub behind : (t x : ℕ) → s < t → x < 64 → counts_of now t x ≡ counts_of old t x

module _ (p : ℕ → Bool) (n s : ℕ) (with : ℕ → QueueCounts → QueueCounts) where
  pub none_walked : (left : List ℕ) (old : List QueueCounts) → length old ≡ 384 → left ≡ filter p (range_with_len 0 n) → IsWalked p n s with left old old
  none_walked left old count is = record {
    as_far = 0;
    within = omega arith;
    to_come = is ∙ ap (λ j. filter p (range_with_len 0 j)) (omega arith);
    count = count;
    done = λ x h. absurd (omega (arith, h));
    rest = λ x h. refl;
    before = λ t x h hx. refl;
    behind = λ t x h hx. refl;
  }

  module _ (few : n ≤ 32) (hs : s < 6) (idle : (x : ℕ) → x < 2 * n → p (x / 2) ≡ false → (q : QueueCounts) → with x q ≡ q) where
    module _ (left rest : List ℕ) (k : ℕ) (old now : List QueueCounts) (are : IsWalked p n s with left old now) (is : left ≡ k ∷ rest) where
      next : IsNext p are.as_far n k rest
      next = next_is p (n - are.as_far) are.as_far n k rest (omega (arith, are.within)) (sym are.to_come ∙ is)

      pub next_below : k < n
      next_below = next.below

      pub next_same : (x : ℕ) → 2 * k ≤ x → counts_of now s x ≡ counts_of old s x
      next_same x h = are.rest x (omega (arith, h, next.from))

      abbrev one : List QueueCounts
      one = set now (s * 64 + 2 * k) (with (2 * k) (counts_of now s (2 * k)))

      abbrev two : List QueueCounts
      two = set one (s * 64 + (2 * k + 1)) (with (2 * k + 1) (counts_of one s (2 * k + 1)))

      one_count : length one ≡ 384
      one_count = length-set now _ _ ∙ are.count

      pub second_same : counts_of one s (2 * k + 1) ≡ counts_of old s (2 * k + 1)
      second_same = set_beside now s (2 * k) _ (2 * k + 1) (λ e. omega (arith, e)) ∙ next_same (2 * k + 1) (omega arith)

      first_is : counts_of two s (2 * k) ≡ with (2 * k) (counts_of old s (2 * k))
      first_is =
          set_beside one s (2 * k + 1) _ (2 * k) (λ e. omega (arith, e))
          ∙ set_here now s (2 * k) _ are.count hs (omega (arith, next.below, few))
          ∙ ap (with (2 * k)) (next_same (2 * k) (omega arith))

      second_is : counts_of two s (2 * k + 1) ≡ with (2 * k + 1) (counts_of old s (2 * k + 1))
      second_is = set_here one s (2 * k + 1) _ one_count hs (omega (arith, next.below, few)) ∙ ap (with (2 * k + 1)) second_same

      others : (x : ℕ) → (x ≡ 2 * k → ⊥) → (x ≡ 2 * k + 1 → ⊥) → counts_of two s x ≡ counts_of now s x
      others x a b = set_beside one s (2 * k + 1) _ x b ∙ set_beside now s (2 * k) _ x a

      place : (x : ℕ) → x < 2 * (k + 1) → (x < 2 * k) ⊎ ((x ≡ 2 * k) ⊎ (x ≡ 2 * k + 1))
      place x h = grind arith

      early : (x : ℕ) → (x < 2 * are.as_far) ⊎ (2 * are.as_far ≤ x)
      early x = grind arith

      done_before : (x : ℕ) → x < 2 * k → counts_of now s x ≡ with x (counts_of old s x)
      done_before x h = elim (early x) [
        | inl low ↦ are.done x low
        | inr high ↦ are.rest x high ∙ sym (idle x (omega (arith, h, next.below)) (next.skipped (x / 2) (omega (arith, high)) (omega (arith, h))) (counts_of old s x))
      ]

      done_next : (x : ℕ) → x < 2 * (k + 1) → counts_of two s x ≡ with x (counts_of old s x)
      done_next x h = elim (place x h) [
        | inl less ↦ others x (λ e. omega (arith, e, less)) (λ e. omega (arith, e, less)) ∙ done_before x less
        | inr (inl first) ↦ ap (counts_of two s) first ∙ first_is ∙ ap (λ y. with y (counts_of old s y)) (sym first)
        | inr (inr second) ↦ ap (counts_of two s) second ∙ second_is ∙ ap (λ y. with y (counts_of old s y)) (sym second)
      ]

      pub one_walked : IsWalked p n s with rest old two
      one_walked = record {
        as_far = k + 1;
        within = omega (arith, next.below);
        to_come = next.left;
        count = length-set one _ _ ∙ one_count;
        done = done_next;
        rest = λ x h. others x (λ e. omega (arith, e, h)) (λ e. omega (arith, e, h)) ∙ next_same x (omega (arith, h));
        before = λ t x h hx. set_above one s (2 * k + 1) _ t x h (omega (arith, next.below, few)) hx ∙ set_above now s (2 * k) _ t x h (omega (arith, next.below, few)) hx ∙ are.before t x h hx;
        behind = λ t x h hx. set_below one s (2 * k + 1) _ t x h (omega (arith, next.below, few)) hx ∙ set_below now s (2 * k) _ t x h (omega (arith, next.below, few)) hx ∙ are.behind t x h hx;
      }

    -- at the end
    pub all_walked : (left : List ℕ) (old now : List QueueCounts) → IsWalked p n s with left old now → left ≡ [] → (x : ℕ) → x < 2 * n → counts_of now s x ≡ with x (counts_of old s x)
    all_walked left old now are none x h = elim (split x are.as_far) [
      | inl low ↦ are.done x low
      | inr high ↦ are.rest x high ∙ sym (idle x h (none_left p (n - are.as_far) are.as_far (sym are.to_come ∙ none) (x / 2) (omega (arith, high)) (omega (arith, h, are.within))) (counts_of old s x))
    ]
      where
        split : (x a : ℕ) → (x < 2 * a) ⊎ (2 * a ≤ x)
        split x a = grind arith
