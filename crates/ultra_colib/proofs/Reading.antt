-- texts into which numbers are put are read as their programs
use Rattle.std.proofs.Common.{◌≡◌, ℕ, zero, suc, ◌+◌, ◌<◌, Bool, true, false, not, ◌&&◌, List, [], ◌∷◌, ◌++◌, map, length, take, drop, codes, decimal, Option, Some, None, IfSome, refl, sym, ◌∙◌, ap, subst, append_assoc, append-nil, arith}
use Rattle.std.proofs.lemmas.{Bool.and_parts, Fmt.{decimal_digit, decimal_step}}
use Rattle.ultra_asm.specs.{declared.instruction.{Mnemonic.Mnemonic, Operand.Operand}, Words.{line_words, text_words, before_colon, is_name}, Labels.is_defined_before, Instruction.mnemonic_word, ProgramText.{IsNewLabel, IsLabelled, line_at}, Listing.{operand_text, operands_text, AreWritable}}
use Rattle.ultra_asm.proofs.{Cutting.text_next, Spelled.{word_plain, operands_plain}}

abbrev pub Lines : Type 0
Lines = List (List (List ℕ))

-- the words of an instruction
abbrev pub words : Mnemonic → List Operand → List (List ℕ)
words m os = mnemonic_word m ∷ map operand_text os

-- the words of n lines, from line i on
abbrev pub words_from : ℕ → ℕ → List (List ℕ) → Lines
words_from i n lines = map line_words (take n (drop i lines))

-- a line that ends with a number, and the lines after it
pub number_line : (m : Mnemonic) (os : List Operand) (line : List ℕ) (n : ℕ) (rest : List ℕ) → AreWritable os → mnemonic_word m ++ operands_text os ≡ line ++ (decimal n ++ []) → text_words (line ++ (decimal n ++ 10 ∷ rest)) ≡ words m os ∷ text_words rest
number_line m os line n rest writable e =
    let same : line ++ (decimal n ++ 10 ∷ rest) ≡ (mnemonic_word m ++ operands_text os) ++ 10 ∷ rest =
    ap (λ ds. line ++ (ds ++ 10 ∷ rest)) (sym (append-nil (decimal n))) ∙ (sym (append_assoc line (decimal n ++ []) (10 ∷ rest)) ∙ ap (λ xs. xs ++ 10 ∷ rest) (sym e)) in
    ap text_words same ∙ text_next (mnemonic_word m) rest os (word_plain m) (operands_plain os writable)

not_true : (b : Bool) → not b ≡ true → b ≡ false
not_true true h = absurd cc
not_true false h = refl

-- ---- each label is new
module _ (ls : Lines) where
  abbrev is_new : ℕ → Option (List ℕ) → Bool
  is_new k None = true
  is_new k (Some name) = is_name name && not (is_defined_before ls k name)

  abbrev is_labelled : ℕ → List (List ℕ) → Bool
  is_labelled k [] = true
  is_labelled k (w ∷ ws) = is_new k (before_colon w)

  abbrev are_labelled : ℕ → Lines → Bool
  are_labelled k [] = true
  are_labelled k (ws ∷ rest) = is_labelled k ws && are_labelled (k + 1) rest

  new_where : (k : ℕ) (o : Option (List ℕ)) → is_new k o ≡ true → IfSome o (IsNewLabel ls k)
  new_where k None h = tt
  new_where k (Some name) h = let p = and_parts (is_name name) (not (is_defined_before ls k name)) h in (p.0, not_true (is_defined_before ls k name) p.1)

  labelled : (k : ℕ) (ws : List (List ℕ)) → is_labelled k ws ≡ true → IsLabelled ls k ws
  labelled k [] h = tt
  labelled k (w ∷ ws) h = new_where k (before_colon w) h

  labelled_from : (j : ℕ) (rest : Lines) → are_labelled j rest ≡ true → (k : ℕ) → k < length rest → IsLabelled ls (j + k) (line_at rest k)
  labelled_from j [] h k l = absurd (omega arith)
  labelled_from j (ws ∷ rest) h zero l =
      let here : j ≡ j + zero = omega arith in
      subst (λ (m : ℕ). IsLabelled ls m ws) here (labelled j ws (and_parts (is_labelled j ws) (are_labelled (j + 1) rest) h).0)
  labelled_from j (ws ∷ rest) h (suc k) l =
      let here : j + 1 + k ≡ j + suc k = omega arith in
      subst (λ (m : ℕ). IsLabelled ls m (line_at rest k)) here (labelled_from (j + 1) rest (and_parts (is_labelled j ws) (are_labelled (j + 1) rest) h).1 k (omega arith))

-- a computed test shows that each label is new
pub labels_of : (ls : Lines) → are_labelled ls 0 ls ≡ true → (k : ℕ) → k < length ls → IsLabelled ls k (line_at ls k)
labels_of ls h k l =
    let here : 0 + k ≡ k = omega arith in
    subst (λ (m : ℕ). IsLabelled ls m (line_at ls k)) here (labelled_from ls 0 ls h k l)

pub decimal_eleven : decimal 11 ≡ codes "11"
decimal_eleven = decimal_step 11 (omega arith) (omega arith) ∙ ap (λ (ds : List ℕ). ds ++ 49 ∷ []) (decimal_digit 1 (omega arith))
