-- a text made of plain words is cut into those words again
use Rattle.std.proofs.Common.{◌≡◌, ℕ, suc, ◌<◌, Bool, true, false, not, ◌&&◌, ◌==◌, List, [], ◌∷◌, ◌++◌, map, length, take, filter, cond, refl, ◌∙◌, ap, arith, append-nil}
use Rattle.std.specs.{List.{slice_split, onto_first, before_first, prefix_len, list_all}, Int.IsInRange, Str.Parse.AllDigits}
use Rattle.std.proofs.lemmas.{Bool.{and_parts, and_from, ne_eqb, cond-false}, List.Folds.list_all-append, Str.Parse.digit_from_value}
use Rattle.ultra_asm.specs.Words.{is_separator, begins_comment, words_of, line_words, lines_of, text_words}
use Rattle.ultra_asm.specs.{declared.instruction.Operand.Operand, Listing.{operand_text, operands_text}}

-- a byte that begins no comment and ends no line, and one that separates no words besides
abbrev pub is_clean : ℕ → Bool
is_clean b = not (begins_comment b) && not (b == 10)

abbrev pub is_plain : ℕ → Bool
is_plain b = not (is_separator b) && is_clean b

-- a word of such bytes
pub record IsPlain (w : List ℕ) : Type 0 where
  pub bytes : list_all is_plain w ≡ true
  pub some : 0 < length w

not_true : (b : Bool) → not b ≡ true → b ≡ false
not_true true h = absurd cc
not_true false h = refl

clean_from : (w : List ℕ) → list_all is_plain w ≡ true → list_all is_clean w ≡ true
clean_from [] h = refl
clean_from (b ∷ w) h =
    let p = and_parts (is_plain b) (list_all is_plain w) h in
    let q = and_parts (not (is_separator b)) (is_clean b) p.0 in
    and_from (is_clean b) (list_all is_clean w) q.1 (clean_from w p.1)

-- ---- digits
digit_plain : (c : ℕ) → IsInRange 48 57 c → is_plain c ≡ true
digit_plain c (low, high) =
    let n32 : c ≡ 32 → ⊥ = λ h. omega arith in
    let n9 : c ≡ 9 → ⊥ = λ h. omega arith in
    let n13 : c ≡ 13 → ⊥ = λ h. omega arith in
    let n44 : c ≡ 44 → ⊥ = λ h. omega arith in
    let n59 : c ≡ 59 → ⊥ = λ h. omega arith in
    let n35 : c ≡ 35 → ⊥ = λ h. omega arith in
    let n10 : c ≡ 10 → ⊥ = λ h. omega arith in
    rw (ne_eqb c 32 n32, ne_eqb c 9 n9, ne_eqb c 13 n13, ne_eqb c 44 n44, ne_eqb c 59 n59, ne_eqb c 35 n35, ne_eqb c 10 n10) refl

pub digits_plain : (ds : List ℕ) → AllDigits 10 ds → list_all is_plain ds ≡ true
digits_plain [] h = refl
digits_plain (c ∷ cs) h = and_from (is_plain c) (list_all is_plain cs) (digit_plain c (digit_from_value c h.0)) (digits_plain cs h.1)

-- ---- words
onto : (b : ℕ) (w : List ℕ) (ws : List (List ℕ)) (parts : List (List ℕ)) → is_separator b ≡ false → parts ≡ w ∷ ws → cond (is_separator b) ([] ∷ parts) (onto_first b parts) ≡ (b ∷ w) ∷ ws
onto b w ws parts h e = cond-false (is_separator b) ([] ∷ parts) (onto_first b parts) h ∙ ap (onto_first b) e

plain_head : (b : ℕ) (w : List ℕ) → list_all is_plain (b ∷ w) ≡ true → (is_separator b ≡ false) × (list_all is_plain w ≡ true)
plain_head b w h =
    let p = and_parts (is_plain b) (list_all is_plain w) h in
    (not_true (is_separator b) (and_parts (not (is_separator b)) (is_clean b) p.0).0, p.1)

word_last : (w : List ℕ) → list_all is_plain w ≡ true → slice_split is_separator w ≡ w ∷ []
word_last [] h = refl
word_last (b ∷ w) h = let p = plain_head b w h in onto b w [] (slice_split is_separator w) p.0 (word_last w p.1)

word_next : (w rest : List ℕ) → list_all is_plain w ≡ true → slice_split is_separator (w ++ 32 ∷ rest) ≡ w ∷ slice_split is_separator rest
word_next [] rest h = refl
word_next (b ∷ w) rest h = let p = plain_head b w h in onto b w (slice_split is_separator rest) (slice_split is_separator (w ++ 32 ∷ rest)) p.0 (word_next w rest p.1)

-- the operands are written by plain words
abbrev pub ArePlain : List Operand → Type 0
ArePlain [] = Unit {0}
ArePlain (o ∷ os) = IsPlain (operand_text o) × ArePlain os

words_split : (w : List ℕ) (os : List Operand) → IsPlain w → ArePlain os → slice_split is_separator (w ++ operands_text os) ≡ w ∷ map operand_text os
words_split w [] p h = ap (slice_split is_separator) (append-nil w) ∙ word_last w p.bytes
words_split w (o ∷ os) p h = word_next w (operand_text o ++ operands_text os) p.bytes ∙ ap (λ ws. w ∷ ws) (words_split (operand_text o) os h.0 h.1)

keep : (w : List ℕ) (ws vs : List (List ℕ)) → 0 < length w → filter (λ v. not (length v == 0)) ws ≡ vs → filter (λ v. not (length v == 0)) (w ∷ ws) ≡ w ∷ vs
keep w ws vs some e = let apart : length w ≡ 0 → ⊥ = λ h. omega arith in rw (ne_eqb (length w) 0 apart) (ap (λ us. w ∷ us) e)

operands_kept : (os : List Operand) → ArePlain os → filter (λ v. not (length v == 0)) (map operand_text os) ≡ map operand_text os
operands_kept [] h = refl
operands_kept (o ∷ os) h = keep (operand_text o) (map operand_text os) (map operand_text os) (let s = h.0.some in s) (operands_kept os h.1)

no_comment : (xs : List ℕ) → list_all is_clean xs ≡ true → before_first begins_comment xs ≡ xs
no_comment [] h = refl
no_comment (b ∷ xs) h =
    let p = and_parts (is_clean b) (list_all is_clean xs) h in
    let c : begins_comment b ≡ false = not_true (begins_comment b) (and_parts (not (begins_comment b)) (not (b == 10)) p.0).0 in
    let n : prefix_len (λ x. not (begins_comment x)) (b ∷ xs) ≡ suc (prefix_len (λ x. not (begins_comment x)) xs) = rw c (omega arith) in
    ap (λ k. take k (b ∷ xs)) n ∙ ap (λ ys. b ∷ ys) (no_comment xs p.1)

operands_clean : (os : List Operand) → ArePlain os → list_all is_clean (operands_text os) ≡ true
operands_clean [] h = refl
operands_clean (o ∷ os) h = list_all-append is_clean (operand_text o) (operands_text os) ∙ and_from _ _ (clean_from (operand_text o) h.0.bytes) (operands_clean os h.1)

pub line_clean : (w : List ℕ) (os : List Operand) → IsPlain w → ArePlain os → list_all is_clean (w ++ operands_text os) ≡ true
line_clean w os p h = list_all-append is_clean w (operands_text os) ∙ and_from _ _ (clean_from w p.bytes) (operands_clean os h)

pub line_cut : (w : List ℕ) (os : List Operand) → IsPlain w → ArePlain os → line_words (w ++ operands_text os) ≡ w ∷ map operand_text os
line_cut w os p h = ap words_of (no_comment (w ++ operands_text os) (line_clean w os p h)) ∙ (ap (filter (λ v. not (length v == 0))) (words_split w os p h) ∙ keep w (map operand_text os) (map operand_text os) (let s = p.some in s) (operands_kept os h))

-- ---- lines
line_next : (l rest : List ℕ) → list_all is_clean l ≡ true → lines_of (l ++ 10 ∷ rest) ≡ l ∷ lines_of rest
line_next [] rest h = refl
line_next (b ∷ l) rest h =
    let p = and_parts (is_clean b) (list_all is_clean l) h in
    let c : (b == 10) ≡ false = not_true (b == 10) (and_parts (not (begins_comment b)) (not (b == 10)) p.0).1 in
    cond-false (b == 10) ([] ∷ lines_of (l ++ 10 ∷ rest)) (onto_first b (lines_of (l ++ 10 ∷ rest))) c ∙ ap (onto_first b) (line_next l rest p.1)

pub text_next : (w rest : List ℕ) (os : List Operand) → IsPlain w → ArePlain os → text_words ((w ++ operands_text os) ++ 10 ∷ rest) ≡ (w ∷ map operand_text os) ∷ text_words rest
text_next w rest os p h = ap (map line_words) (line_next (w ++ operands_text os) rest (line_clean w os p h)) ∙ ap (λ ws. ws ∷ text_words rest) (line_cut w os p h)
