-- sums and maxima by a walk over the units of a kind that are in a set
use Rattle.std.proofs.Common.{ℕ, suc, ◌≡◌, ◌+◌, ◌*◌, ◌<◌, ◌≤◌, List, [], ◌∷◌, ◌++◌, length, max, refl, sym, ◌∙◌, ap, arith, append-nil, append_assoc, length-append}
use Rattle.ultra_topology.specs.Set.{has_unit}
use Rattle.ultra_holders.specs.Holders.{numbers_in}
use Rattle.ultra_holders.proofs.Skipped.{next_small, few_pass}
use Rattle.ultra_measure.proofs.Gathered.{added, topmost, added_last, topmost_last}

-- of all numbers some came: the sum of their values of one kind, the most of another, and the sum
-- of a third. The first sum is at most 128 for each number, and the other at most 2
pub record AreCounted (value peak fulls : ℕ → ℕ) (all came left : List ℕ) (sum most full : ℕ) : Type 0 where
  pub sum_is : sum ≡ added value came
  pub most_is : most ≡ topmost peak came
  pub full_is : full ≡ added fulls came
  pub few : sum ≤ 128 * length came
  pub few_full : full ≤ 2 * length came
  pub parts : came ++ left ≡ all

module _ {value peak fulls : ℕ → ℕ} where
  -- at the start none came
  pub none_counted : {all left : List ℕ} → left ≡ all → AreCounted value peak fulls all [] left 0 0 0
  none_counted is = record { sum_is = refl; most_is = refl; full_is = refl; few = omega arith; few_full = omega arith; parts = is }

  module _ {all came left : List ℕ} {sum most full : ℕ} (are : AreCounted value peak fulls all came left sum most full) where
    -- one more comes
    pub one_more : {x : ℕ} {rest : List ℕ} (s t u : ℕ) → left ≡ x ∷ rest → s ≡ sum + value x → t ≡ max most (peak x) → u ≡ full + fulls x → value x ≤ 128 → fulls x ≤ 2 → AreCounted value peak fulls all (came ++ x ∷ []) rest s t u
    one_more {x} {rest} s t u next s_is t_is u_is small full_small = record {
      sum_is = s_is ∙ ap (λ y. y + value x) are.sum_is ∙ sym (added_last value came x);
      most_is = t_is ∙ ap (λ y. max y (peak x)) are.most_is ∙ sym (topmost_last peak came x);
      full_is = u_is ∙ ap (λ y. y + fulls x) are.full_is ∙ sym (added_last fulls came x);
      few = omega (arith, are.few, length-append came (x ∷ []));
      few_full = omega (arith, are.few_full, length-append came (x ∷ []));
      parts = append_assoc came (x ∷ []) rest ∙ ap (λ xs. came ++ xs) (sym next) ∙ are.parts;
    }

    all_came : left ≡ [] → came ≡ all
    all_came none = sym (append-nil came) ∙ ap (λ xs. came ++ xs) (sym none) ∙ are.parts

    -- none is left
    pub sum_of_all : left ≡ [] → sum ≡ added value all
    sum_of_all none = are.sum_is ∙ ap (added value) (all_came none)

    pub most_of_all : left ≡ [] → most ≡ topmost peak all
    most_of_all none = are.most_is ∙ ap (topmost peak) (all_came none)

    pub full_of_all : left ≡ [] → full ≡ added fulls all
    full_of_all none = are.full_is ∙ ap (added fulls) (all_came none)

-- where all are those of n numbers that are in a set
module _ {value peak fulls : ℕ → ℕ} (units : List ℕ) (base n : ℕ) {came left : List ℕ} {sum most full : ℕ} (are : AreCounted value peak fulls (numbers_in units base n) came left sum most full) where
  pub next_within : {x : ℕ} {rest : List ℕ} → left ≡ x ∷ rest → x < n
  next_within {x} {rest} next = next_small (λ k. has_unit units (base + k)) n came left rest x are.parts next

  -- before the next there were fewer than n
  pub next_fits : {x : ℕ} {rest : List ℕ} → left ≡ x ∷ rest → (sum + 128 ≤ 128 * n) × (full + 2 ≤ 2 * n)
  next_fits {x} {rest} next =
      let few = few_pass (λ k. has_unit units (base + k)) 0 n in
      let parts = sym (length-append came left) ∙ ap length are.parts in
      let one : length left ≡ suc (length rest) = ap length next in
      (omega (arith, few, parts, one, are.few), omega (arith, few, parts, one, are.few_full))
