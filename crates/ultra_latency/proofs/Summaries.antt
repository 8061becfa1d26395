-- what is kept of latencies, and of one more
use Rattle.std.proofs.Common.{ℕ, ◌≡◌, ◌+◌, List, [], ◌∷◌, ◌++◌, length, min, max, append-nil, length-append, refl, sym, ap, ◌∙◌, subst, arith}
use Rattle.std.specs.{Prelude.{Option, Some, None, sum, option_to_list}, List.{reduce, fold}}
use Rattle.std.proofs.lemmas.List.Sums.{sum_by-append}
use Rattle.ultra_latency.specs.{declared.summary.Latencies.Latencies, Summary.{AreSummedUp, lesser_of, greater_of}}

fold_last : (f : ℕ → ℕ → ℕ) (a : ℕ) (xs : List ℕ) (y : ℕ) → fold f a (xs ++ y ∷ []) ≡ f (fold f a xs) y
fold_last f a [] y = refl
fold_last f a (x ∷ xs) y = fold_last f (f a x) xs y

least_last : (xs : List ℕ) (y : ℕ) → reduce min (xs ++ y ∷ []) ≡ Some (lesser_of (reduce min xs) y)
least_last [] y = refl
least_last (x ∷ xs) y = ap (λ v. Some v) (fold_last min x xs y)

greatest_last : (xs : List ℕ) (y : ℕ) → reduce max (xs ++ y ∷ []) ≡ Some (greater_of (reduce max xs) y)
greatest_last [] y = refl
greatest_last (x ∷ xs) y = ap (λ v. Some v) (fold_last max x xs y)

pub none_summed_up : (l : Latencies) → l.count ≡ 0 → l.sum ≡ 0 → l.least ≡ None → l.greatest ≡ None → AreSummedUp [] l
none_summed_up l count sum least greatest = record { count = count; sum = sum; least = least; greatest = greatest }

pub one_summed_up : (old new : Latencies) (y : ℕ) → new.count ≡ old.count + 1 → new.sum ≡ old.sum + y → new.least ≡ Some (lesser_of old.least y) → new.greatest ≡ Some (greater_of old.greatest y)
    → (xs : List ℕ) → AreSummedUp xs old → AreSummedUp (xs ++ y ∷ []) new
one_summed_up old new y count total least greatest xs are =
    let long = length-append xs (y ∷ []) in
    let sums = sum_by-append (λ x. x) xs (y ∷ []) in
    record {
      count = omega (arith, count, are.count, long);
      sum = omega (arith, total, are.sum, sums);
      least = least ∙ ap (λ o. Some (lesser_of o y)) are.least ∙ sym (least_last xs y);
      greatest = greatest ∙ ap (λ o. Some (greater_of o y)) are.greatest ∙ sym (greatest_last xs y);
    }

pub same_summed_up : (l : Latencies) (xs : List ℕ) → AreSummedUp xs l → AreSummedUp (xs ++ []) l
same_summed_up l xs are = subst (λ ys. AreSummedUp ys l) (sym (append-nil xs)) are
