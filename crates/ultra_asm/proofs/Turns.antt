-- the lines of a text, as a loop takes them in order
use Rattle.std.proofs.Common.{◌≡◌, ℕ, ◌+◌, ◌<◌, ◌≤◌, List, [], map, length, get_or, Bor, Option, Some, None, sym, ◌∙◌, ap, arith}
use Rattle.std.specs.{List.enumerate_from, Iterator.Yields}
use Rattle.std.proofs.lemmas.{List.{get_or-map, length-map, FromFn.{length-enumerate_from, get_or-enumerate_from}}, Iterator.{YieldsList, Consumers.{YieldsList-turn, YieldsList-end}}}
use Rattle.ultra_asm.specs.Words.{line_words, lines_of, text_words}

abbrev pub Lent : Type 0
Lent = Bor (List ℕ)

abbrev pub texts : List Lent → List (List ℕ)
texts ws = map (λ w. w.now) ws

-- the line that turn k takes, with its number
pub record IsTurn (text : List ℕ) (k n : ℕ) (line : List ℕ) : Type 0 where
  pub within : k < length (text_words text)
  pub number : n ≡ k
  pub words : line_words line ≡ get_or (text_words text) k []

abbrev pub numbered_text : ℕ × Lent → ℕ × List ℕ
numbered_text p = (p.0, p.1.now)

abbrev pub numbered_lines : List ℕ → List (ℕ × List ℕ)
numbered_lines text = enumerate_from 0 (lines_of text)

module _ (text : List ℕ) {S : Type 0} {steps : S → Option (ℕ × Lent) → S → Type 0} {s : S} (xs : List (ℕ × Lent)) (t : S) (y : Yields steps s xs t) (r : Option (ℕ × Lent)) (u : S) where
  pub turn : (n : ℕ) (line : Lent) → r ≡ Some (n, line) → steps t r u → YieldsList steps numbered_text s (numbered_lines text) → IsTurn text (length xs) n line.now
  turn n line some step road =
      let k = length xs in
      let (lt, is) = YieldsList-turn road xs t y r u (n, line) some step in
      let zero : 0 + k ≡ k = omega arith in
      let short : k < length (lines_of text) = omega (arith, length-enumerate_from 0 (lines_of text)) in
      let within : k < length (text_words text) = omega (arith, length-map (lines_of text) line_words) in
      let at : (n, line.now) ≡ (0 + k, get_or (lines_of text) k line.now) = is ∙ get_or-enumerate_from 0 (lines_of text) k (n, line.now) short in
      let code : line.now ≡ get_or (lines_of text) k line.now = ap (λ (p : ℕ × List ℕ). p.1) at in
      record {
        within = within;
        number = ap (λ (p : ℕ × List ℕ). p.0) at ∙ zero;
        words = ap line_words code ∙ sym (get_or-map line_words (lines_of text) k line.now [] short);
      }

  -- at the end it has taken all of them
  pub end : r ≡ None → steps t r u → YieldsList steps numbered_text s (numbered_lines text) → length (text_words text) ≤ length xs
  end none step road =
      let (all, count) = YieldsList-end road xs t y r u none step in
      omega (arith, length-enumerate_from 0 (lines_of text), length-map (lines_of text) line_words)
