-- what is before the first element that passes a test
use Rattle.std.proofs.Common.{◌≡◌, ℕ, Bool, List, length, take, position, Some, None, sym, ap, ◌∙◌, inl, inr, nat_lt}
use Rattle.std.specs.List.{before_first, position_or_len}
use Rattle.std.proofs.lemmas.{Bool.{cases_Bool, cond-true, cond-false, ltb-false}, List.take_all}

pub before_at : (p : ℕ → Bool) (xs : List ℕ) (i : ℕ) → Some i ≡ position p xs → take i xs ≡ before_first p xs
before_at p xs i is = elim (cases_Bool (nat_lt (position_or_len p xs) (length xs))) [
  | inl t ↦ let e : Some i ≡ Some (position_or_len p xs) = is ∙ cond-true _ _ _ t in let same : i ≡ position_or_len p xs = cc in ap (λ k. take k xs) same
  | inr f ↦ let e : Some i ≡ None = is ∙ cond-false _ _ _ f in cc
]

pub before_none : (p : ℕ → Bool) (xs : List ℕ) → None ≡ position p xs → xs ≡ before_first p xs
before_none p xs is = elim (cases_Bool (nat_lt (position_or_len p xs) (length xs))) [
  | inl t ↦ let e : None ≡ Some (position_or_len p xs) = is ∙ cond-true _ _ _ t in cc
  | inr f ↦ sym (take_all _ _ (ltb-false _ _ f))
]
