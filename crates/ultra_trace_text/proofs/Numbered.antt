-- lines in order
use Rattle.std.proofs.Common.{ℕ, zero, suc, ◌≡◌, ◌+◌, List, [], ◌∷◌, ◌++◌, get_or, refl, ◌∙◌, ap, arith, append-nil, add-one, slice_get}
use Rattle.std.specs.{Option.unwrap_or, List.{flat_map, range_with_len}}
use Rattle.std.proofs.lemmas.List.Concat.{flat_map-append}
use Rattle.ultra_io.specs.{declared.text_buffer.TextBuffer.TextBuffer, TextBuffer.Writes}
use Rattle.ultra_model.specs.Trace.{by_number}
use Rattle.ultra_io.proofs.Writing.{◌then◌}

one_more : (a n b : ℕ) → a + n ≡ b → range_with_len a (suc n) ≡ range_with_len a n ++ b ∷ []
one_more a zero b e = let same : a ≡ b = omega arith in ap (λ k. k ∷ []) same
one_more a (suc n) b e = let rest = one_more (a + 1) n b in grind arith

module _ {X : Type 0} (line : X → List ℕ) where
  pub last_line : (xs : List X) (x : X) → flat_map line (xs ++ x ∷ []) ≡ flat_map line xs ++ line x
  last_line xs x = flat_map-append line xs (x ∷ []) ∙ ap (λ t. flat_map line xs ++ t) (append-nil (line x))

-- the lines by number, and the next
pub by_number_more : (n : ℕ) (line : ℕ → List ℕ) → by_number (n + 1) line ≡ by_number n line ++ line n
by_number_more n line = rw add-one (ap (flat_map line) (one_more 0 n n (omega arith)) ∙ last_line line (range_with_len 0 n) n)

module _ {S : Type 0} {taken : S → List ℕ} {failures : S → ℕ} (line : ℕ → List ℕ) (i : ℕ) where
  pub writes_number : {s t u : TextBuffer S} → Writes taken failures (by_number i line) s t → Writes taken failures (line i) t u → Writes taken failures (by_number (i + 1) line) s u
  writes_number v w = rw (by_number_more i line) (v then w)

-- a value of a list, or 0 where there is none
pub value_or_zero : (xs : List ℕ) (i : ℕ) → unwrap_or (slice_get xs i) 0 ≡ get_or xs i 0
value_or_zero [] i = refl
value_or_zero (x ∷ xs) zero = refl
value_or_zero (x ∷ xs) (suc i) = value_or_zero xs i
