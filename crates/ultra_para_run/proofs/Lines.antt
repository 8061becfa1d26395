-- the lines of a schedule's text and the words of a line, as loops take them
use Rattle.std.proofs.Common.{◌≡◌, ℕ, ◌+◌, ◌-◌, ◌<◌, ◌≤◌, List, [], ◌∷◌, ◌++◌, map, length, take, get_or, Bool, true, false, Option, Some, None, is_some, refl, sym, ◌∙◌, ap, subst, arith, append_assoc, append-nil}
use Rattle.std.specs.{Prelude.{All, ◌&&◌, nat_lt, if◌then◌else◌}, List.{before_first, flat_map, list_all}, Str.Parse.digits_value, Iterator.Yields}
use Rattle.std.proofs.lemmas.{Bool.{and_parts, ltb-true}, List.{take_more, take_all, map-append, get_or_default, length_push, Folds.{list_all_more, list_all_at}, Elements.{All-nil, All-cons, All-append}, FromFn.{length-enumerate_from, get_or-enumerate_from}, Concat.flat_map-append}, Iterator.{YieldsList, Consumers.{YieldsList-turn, YieldsList-end}}}
use Rattle.ultra_asm.specs.Words.{decimal_value, is_number, lines_of, words_of}
use Rattle.ultra_asm.proofs.Turns.{Lent, numbered_text, numbered_lines}
use Rattle.ultra_para_run.specs.ScheduleText.{begins_schedule_comment, if_below, pe_of, schedule_words, line_pes, are_pes, IsFirstBadPe, IsScheduleText}

-- the line that turn k takes, with its number
pub record IsLine (text : List ℕ) (k n : ℕ) (line : List ℕ) : Type 0 where
  pub within : k < length (lines_of text)
  pub number : n ≡ k
  pub is : line ≡ get_or (lines_of text) k []

module _ (text : List ℕ) {S : Type 0} {steps : S → Option (ℕ × Lent) → S → Type 0} {s : S} (xs : List (ℕ × Lent)) (t : S) (y : Yields steps s xs t) (r : Option (ℕ × Lent)) (u : S) where
  pub line_taken : (n : ℕ) (line : Lent) → r ≡ Some (n, line) → steps t r u → YieldsList steps numbered_text s (numbered_lines text) → IsLine text (length xs) n line.now
  line_taken n line some step road =
      let k = length xs in
      let (lt, is) = YieldsList-turn road xs t y r u (n, line) some step in
      let zero : 0 + k ≡ k = omega arith in
      let short : k < length (lines_of text) = omega (arith, length-enumerate_from 0 (lines_of text)) in
      let at : (n, line.now) ≡ (0 + k, get_or (lines_of text) k line.now) = is ∙ get_or-enumerate_from 0 (lines_of text) k (n, line.now) short in
      record {
        within = short;
        number = ap (λ (p : ℕ × List ℕ). p.0) at ∙ zero;
        is = ap (λ (p : ℕ × List ℕ). p.1) at ∙ get_or_default (lines_of text) k line.now [] short;
      }

  pub lines_taken : r ≡ None → steps t r u → YieldsList steps numbered_text s (numbered_lines text) → length (lines_of text) ≤ length xs
  lines_taken none step road =
      let (all, count) = YieldsList-end road xs t y r u none step in
      omega (arith, length-enumerate_from 0 (lines_of text))

-- ---- one word more, and one line more
both_true : (a b : Bool) → a ≡ true → b ≡ true → (a && b) ≡ true
both_true a b p q = rw (p, q) refl

module _ {X : Type 0} (p : X → Bool) (xs : List X) (i : ℕ) (d : X) (h : i < length xs) where
  pub all_more : list_all p (take i xs) ≡ true → p (get_or xs i d) ≡ true → list_all p (take (i + 1) xs) ≡ true
  all_more before here = list_all_more p xs i d h ∙ both_true _ _ before here

module _ {X : Type 0} (f : X → ℕ) (start : List ℕ) (xs : List X) (i : ℕ) (d : X) (h : i < length xs) where
  pub mapped_more : (start ++ map f (take i xs)) ++ f (get_or xs i d) ∷ [] ≡ start ++ map f (take (i + 1) xs)
  mapped_more =
      append_assoc start (map f (take i xs)) (f (get_or xs i d) ∷ [])
      ∙ ap (λ ys. start ++ ys) (sym (ap (map f) (take_more xs i d h) ∙ map-append f (take i xs) (get_or xs i d ∷ [])))

pub flat_more : {X : Type 0} (f : X → List ℕ) (xs : List X) (i : ℕ) (d : X) → i < length xs → flat_map f (take i xs) ++ f (get_or xs i d) ≡ flat_map f (take (i + 1) xs)
flat_more f xs i d h =
    sym (ap (flat_map f) (take_more xs i d h) ∙ (flat_map-append f (take i xs) (get_or xs i d ∷ []) ∙ ap (λ ys. flat_map f (take i xs) ++ ys) (append-nil (f (get_or xs i d)))))

-- ---- a number that is found is that of the word, and small
value_is : (w : List ℕ) (b : Bool) (n : ℕ) → (if b then Some (digits_value 10 w) else None) ≡ Some n → n ≡ digits_value 10 w
value_is w true n e = cc
value_is w false n e = absurd cc

below_is : (size m n : ℕ) (b : Bool) → nat_lt m size ≡ b → (if b then Some m else None) ≡ Some n → (m ≡ n) × (n < size)
below_is size m n true t e = let same : m ≡ n = cc in (same, subst (λ k. k < size) same (ltb-true m size t))
below_is size m n false t e = absurd cc

found_is : (size n : ℕ) (w : List ℕ) (o : Option ℕ) → decimal_value w ≡ o → if_below size o ≡ Some n → (n ≡ digits_value 10 w) × (n < size)
found_is size n w None d e = absurd cc
found_is size n w (Some m) d e =
    let below = below_is size m n (nat_lt m size) refl e in
    (sym below.0 ∙ value_is w (is_number w) m d, below.1)

pub pe_is : (size n : ℕ) (w : List ℕ) → pe_of size w ≡ Some n → (n ≡ digits_value 10 w) × (n < size)
pe_is size n w e = found_is size n w (decimal_value w) refl e

-- ---- all numbers of a text are small
module _ (size : ℕ) where
  word_below : (w : List ℕ) (o : Option ℕ) → pe_of size w ≡ o → is_some o ≡ true → digits_value 10 w < size
  word_below w None e h = absurd cc
  word_below w (Some n) e h = let is = pe_is size n w e in subst (λ k. k < size) is.0 is.1

  words_below : (ws : List (List ℕ)) → list_all (λ w. is_some (pe_of size w)) ws ≡ true → All (λ p. p < size) (map (digits_value 10) ws)
  words_below [] h = All-nil (λ p. p < size)
  words_below (w ∷ ws) h =
      let parts = and_parts _ _ h in
      All-cons (λ p. p < size) (digits_value 10 w) (map (digits_value 10) ws) (word_below w (pe_of size w) refl parts.0) (words_below ws parts.1)

  pub lines_below : (ls : List (List ℕ)) → list_all (are_pes size) ls ≡ true → All (λ p. p < size) (flat_map line_pes ls)
  lines_below [] h = All-nil (λ p. p < size)
  lines_below (l ∷ ls) h =
      let parts = and_parts _ _ h in
      All-append (λ p. p < size) (line_pes l) (flat_map line_pes ls) (words_below (schedule_words l) parts.0) (lines_below ls parts.1)

-- ---- the words of a line, as a loop takes them; `code` is what is before the comment
module _ (size : ℕ) (line code : List ℕ) (same : code ≡ before_first begins_schedule_comment line) {S : Type 0} {steps : S → Option Lent → S → Type 0} {s : S} (xs : List Lent) (t : S) (y : Yields steps s xs t) (r : Option Lent) (u : S) (step : steps t r u) (road : YieldsList steps (λ (w : Lent). w.now) s (words_of code)) where
  abbrev ws : List (List ℕ)
  ws = schedule_words line

  abbrev good : List ℕ → Bool
  good w = is_some (pe_of size w)

  word_taken : (w : Lent) → r ≡ Some w → (length xs < length ws) × (w.now ≡ get_or ws (length xs) w.now)
  word_taken w some =
      let (lt, is) = YieldsList-turn road xs t y r u w some step in
      let words : words_of code ≡ ws = ap words_of same in
      (subst (λ (vs : List (List ℕ)). length xs < length vs) words lt, is ∙ ap (λ vs. get_or vs (length xs) w.now) words)

  words_taken : r ≡ None → length ws ≤ length xs
  words_taken none =
      let (all, count) = YieldsList-end road xs t y r u none step in
      let words : length (words_of code) ≡ length ws = ap (λ c. length (words_of c)) same in
      omega (arith, count, words)

  pub bad_word : (w : Lent) → r ≡ Some w → pe_of size w.now ≡ None → are_pes size line ≡ false
  bad_word w some none =
      let at = word_taken w some in
      let bad : good w.now ≡ false = ap is_some none in
      list_all_at good ws (length xs) w.now at.0 (subst (λ v. good v ≡ false) at.1 bad)

  module _ (w : Lent) (some : r ≡ Some w) (p : ℕ) (found : pe_of size w.now ≡ Some p) where
    pub word_more : list_all good (take (length xs) ws) ≡ true → list_all good (take (length (xs ++ w ∷ [])) ws) ≡ true
    word_more before =
        let at = word_taken w some in
        let here : good w.now ≡ true = ap is_some found in
        rw (length_push xs w) (all_more good ws (length xs) w.now at.0 before (subst (λ v. good v ≡ true) at.1 here))

    pub number_more : (start old new : List ℕ) → old ≡ start ++ map (digits_value 10) (take (length xs) ws) → new ≡ old ++ p ∷ [] → new ≡ start ++ map (digits_value 10) (take (length (xs ++ w ∷ [])) ws)
    number_more start old new before pushed =
        let at = word_taken w some in
        let is : p ≡ digits_value 10 (get_or ws (length xs) w.now) = (pe_is size p w.now found).0 ∙ ap (digits_value 10) at.1 in
        pushed ∙ (ap (λ ys. ys ++ p ∷ []) before ∙ (ap (λ q. (start ++ map (digits_value 10) (take (length xs) ws)) ++ q ∷ []) is
        ∙ (mapped_more (digits_value 10) start ws (length xs) w.now at.0 ∙ ap (λ n. start ++ map (digits_value 10) (take n ws)) (sym (length_push xs w)))))

  module _ (none : r ≡ None) where
    pub words_all : list_all good (take (length xs) ws) ≡ true → are_pes size line ≡ true
    words_all before = ap (list_all good) (sym (take_all (length xs) ws (words_taken none))) ∙ before

    pub numbers_all : (start new : List ℕ) → new ≡ start ++ map (digits_value 10) (take (length xs) ws) → new ≡ start ++ line_pes line
    numbers_all start new before = before ∙ ap (λ vs. start ++ map (digits_value 10) vs) (take_all (length xs) ws (words_taken none))

-- ---- the lines of a text
module _ (size : ℕ) (text : List ℕ) {S : Type 0} {steps : S → Option (ℕ × Lent) → S → Type 0} {s : S} (xs : List (ℕ × Lent)) (t : S) (y : Yields steps s xs t) (r : Option (ℕ × Lent)) (u : S) (step : steps t r u) (road : YieldsList steps numbered_text s (numbered_lines text)) where
  abbrev ls : List (List ℕ)
  ls = lines_of text

  module _ (n : ℕ) (line : Lent) (some : r ≡ Some (n, line)) where
    pub bad_line : list_all (are_pes size) (take (length xs) ls) ≡ true → are_pes size line.now ≡ false → IsFirstBadPe size text (n + 1)
    bad_line before bad =
        let at = line_taken text xs t y r u n line some step road in
        let place : n + 1 - 1 ≡ length xs = omega (arith, at.number) in
        record {
          within = (omega arith, omega (arith, at.number, at.within));
          before = subst (λ k. list_all (are_pes size) (take k ls) ≡ true) (sym place) before;
          bad = subst (λ k. are_pes size (get_or ls k []) ≡ false) (sym place) (subst (λ l. are_pes size l ≡ false) at.is bad);
        }

    pub line_more : list_all (are_pes size) (take (length xs) ls) ≡ true → are_pes size line.now ≡ true → list_all (are_pes size) (take (length (xs ++ (n, line) ∷ [])) ls) ≡ true
    line_more before good =
        let at = line_taken text xs t y r u n line some step road in
        rw (length_push xs (n, line)) (all_more (are_pes size) ls (length xs) [] at.within before (subst (λ l. are_pes size l ≡ true) at.is good))

    pub pes_more : (old new : List ℕ) → old ≡ flat_map line_pes (take (length xs) ls) → new ≡ old ++ line_pes line.now → new ≡ flat_map line_pes (take (length (xs ++ (n, line) ∷ [])) ls)
    pes_more old new before pushed =
        let at = line_taken text xs t y r u n line some step road in
        pushed ∙ (ap (λ ys. ys ++ line_pes line.now) before ∙ (ap (λ l. flat_map line_pes (take (length xs) ls) ++ line_pes l) at.is
        ∙ (flat_more line_pes ls (length xs) [] at.within ∙ ap (λ k. flat_map line_pes (take k ls)) (sym (length_push xs (n, line))))))

  pub text_is : r ≡ None → (new : List ℕ) → list_all (are_pes size) (take (length xs) ls) ≡ true → new ≡ flat_map line_pes (take (length xs) ls) → IsScheduleText size text new
  text_is none new words numbers =
      let all = take_all (length xs) ls (lines_taken text xs t y r u none step road) in
      record {
        words = ap (list_all (are_pes size)) (sym all) ∙ words;
        numbers = numbers ∙ ap (flat_map line_pes) all;
      }

pub text_below : (size : ℕ) (text new : List ℕ) → IsScheduleText size text new → All (λ p. p < size) new
text_below size text new is = subst (All (λ p. p < size)) (sym is.numbers) (lines_below size (lines_of text) is.words)
