-- a list of a known length is its elements
use Rattle.std.proofs.Common.{◌≡◌, ◌<◌, ◌≤◌, List, [], ◌∷◌, length, get_or, refl, arith}

module _ {A : Type 0} where
  pub two_are : (xs : List A) (d e : A) → 2 ≤ length xs → length xs < 3 → xs ≡ get_or xs 0 d ∷ get_or xs 1 e ∷ []
  two_are [] d e l h = absurd (omega arith)
  two_are (x ∷ []) d e l h = absurd (omega arith)
  two_are (x ∷ y ∷ []) d e l h = refl
  two_are (x ∷ y ∷ z ∷ xs) d e l h = absurd (omega arith)

  pub three_are : (xs : List A) (d e i : A) → 3 ≤ length xs → length xs < 4 → xs ≡ get_or xs 0 d ∷ get_or xs 1 e ∷ get_or xs 2 i ∷ []
  three_are [] d e i l h = absurd (omega arith)
  three_are (x ∷ []) d e i l h = absurd (omega arith)
  three_are (x ∷ y ∷ []) d e i l h = absurd (omega arith)
  three_are (x ∷ y ∷ z ∷ []) d e i l h = refl
  three_are (x ∷ y ∷ z ∷ w ∷ xs) d e i l h = absurd (omega arith)
