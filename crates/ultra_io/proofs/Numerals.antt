-- when digits are a number, and which text a number has
use Rattle.std.proofs.Common.{◌≡◌, ℕ, ◌+◌, ◌-◌, ◌*◌, ◌<◌, ◌≤◌, ◌^◌, Bool, true, false, ◌&&◌, List, [], ◌∷◌, length, get_or, take, Some, None, cond, decimal, nat_lt, refl, sym, ap, ◌∙◌, inl, inr, arith, lit≤}
use Rattle.std.specs.{Int.IsInRange, Char.digit_value, Str.{all_ascii_digits, Parse.{AllDigits, digits_value}}}
use Rattle.std.proofs.lemmas.Bool.{and_from, and_parts, cond-true, cond-false, false_from_ne_true, cases_lt, ne_eqb, lt-ltb, true≢false, le-leb, leb-true, ltb-true, eq-eqb}
use Rattle.std.proofs.lemmas.{Str.{digit_value_digit, Parse.{digit_from_value, digit_at, digits_value-take-le, numerals_by_value, tells_digits}}, Int.Digits.digits_value_more, Fmt.{decimal_is_IsNumeral, decimal_digit, first_decimal, decimal-digits_value}}
use Rattle.ultra_io.specs.Decimal.{has_leading_zero, is_number, decimal_value, plain_number}

pub digit_below_ten : (c : ℕ) → IsInRange 48 57 c → digit_value c < 10
digit_below_ten c h = omega (arith, digit_value_digit c h)

-- the two ways in which std says that a text has digits alone
all_digits : (w : List ℕ) → all_ascii_digits w ≡ true → AllDigits 10 w
all_digits [] h = tt
all_digits (c ∷ cs) h =
    let here = and_parts _ _ h in
    let range = and_parts _ _ here.0 in
    (digit_below_ten c (leb-true _ _ range.0, leb-true _ _ range.1), all_digits cs here.1)

all_ascii : (w : List ℕ) → AllDigits 10 w → all_ascii_digits w ≡ true
all_ascii [] h = refl
all_ascii (c ∷ cs) h =
    let range = digit_from_value c h.0 in and_from _ _ (and_from _ _ (le-leb _ _ range.0) (le-leb _ _ range.1)) (all_ascii cs h.1)

is_number_when : (w : List ℕ) → 0 < length w → AllDigits 10 w → digits_value 10 w < 2 ^ 32 → is_number w ≡ true
is_number_when w some digits small = and_from _ _ (and_from _ _ (lt-ltb _ _ some) (all_ascii w digits)) (lt-ltb _ _ small)

pub number_is : (w : List ℕ) → 0 < length w → AllDigits 10 w → digits_value 10 w < 2 ^ 32 → decimal_value w ≡ Some (digits_value 10 w)
number_is w some digits small = cond-true (is_number w) _ _ (is_number_when w some digits small)

number_none : (w : List ℕ) → ¬ (is_number w ≡ true) → decimal_value w ≡ None
number_none w h = cond-false (is_number w) _ _ (false_from_ne_true _ h)

-- what a number's digits are
module _ (w : List ℕ) (h : is_number w ≡ true) where
  some_digit : 0 < length w
  some_digit = ltb-true _ _ (and_parts _ _ (and_parts _ _ h).0).0

  are_digits : AllDigits 10 w
  are_digits = all_digits w (and_parts _ _ (and_parts _ _ h).0).1

  is_small : digits_value 10 w < 2 ^ 32
  is_small = ltb-true (digits_value 10 w) (2 ^ 32) (and_parts _ _ h).1

pub number_not_digit : (w : List ℕ) (k : ℕ) → k < length w → ¬ (IsInRange 48 57 (get_or w k 0)) → decimal_value w ≡ None
number_not_digit w k lt not_digit = number_none w (λ h. not_digit (digit_at w k (are_digits w h) lt))

-- the digits so far are too many already
pub number_too_large : (w : List ℕ) (k : ℕ) → 2 ^ 32 ≤ digits_value 10 (take k w) → decimal_value w ≡ None
number_too_large w k large = number_none w (λ h. omega (arith, digits_value-take-le 10 w k (lit≤ tt), is_small w h))

-- one more digit
pub value_more : (w : List ℕ) (k value ones : ℕ) → k < length w → value ≡ digits_value 10 (take k w) → IsInRange 48 57 (get_or w k 0) → ones ≡ get_or w k 0 - 48 → value * 10 + ones ≡ digits_value 10 (take (k + 1) w)
value_more w k value ones lt is range digit = omega (arith, digits_value_more 10 w k lt, digit_value_digit _ range)

-- ---- the text of a number
and_false : (b : Bool) → (b && false) ≡ false
and_false true = refl
and_false false = refl

pub no_leading_zero : (n : ℕ) → n < 2 ^ 32 → has_leading_zero (decimal n) ≡ false
no_leading_zero n small = elim (cases_lt 0 n) [
  | inl more ↦ let apart : get_or (decimal n) 0 0 ≡ 48 → ⊥ = λ h. omega (arith, first_decimal n more (omega arith)) in rw (ne_eqb (get_or (decimal n) 0 0) 48 apart) (and_false (nat_lt 1 (length (decimal n))))
  | inr none ↦ let zero_is : n ≡ 0 = omega arith in rw (zero_is, decimal_digit 0 (omega arith)) refl
]

pub is_number_back : (n : ℕ) → n < 2 ^ 32 → is_number (decimal n) ≡ true
is_number_back n small =
    let (numeral, value) = decimal_is_IsNumeral n (omega arith) in
    is_number_when (decimal n) numeral.0 numeral.1 (omega arith)

pub number_back : (n : ℕ) → n < 2 ^ 32 → decimal_value (decimal n) ≡ Some n
number_back n small =
    let (numeral, value) = decimal_is_IsNumeral n (omega arith) in
    number_is (decimal n) numeral.0 numeral.1 (omega arith) ∙ ap Some value

pub plain_number_back : (n : ℕ) → n < 2 ^ 32 → plain_number (decimal n) ≡ Some n
plain_number_back n small =
    cond-false (has_leading_zero (decimal n)) _ _ (no_leading_zero n small) ∙ number_back n small

text_when : (w : List ℕ) (m : ℕ) (z t : Bool) → has_leading_zero w ≡ z → is_number w ≡ t → cond z None (cond t (Some (digits_value 10 w)) None) ≡ Some m → (m < 2 ^ 32) × (decimal m ≡ w)
text_when w m true t z e h = absurd cc
text_when w m false false z e h = absurd cc
text_when w m false true z e h =
    let same : digits_value 10 w ≡ m = cc in
    let lead : get_or w 0 0 ≡ 48 → length w ≡ 1 = λ zero. elim (cases_lt 1 (length w)) [
      | inl more ↦ absurd (let led : has_leading_zero w ≡ true = and_from _ _ (lt-ltb _ _ more) (eq-eqb _ _ zero) in true≢false (sym led ∙ z))
      | inr one ↦ let some = some_digit w e in omega (arith, one, some)
    ] in
    let small = is_small w e in
    let spelled = decimal-digits_value (numerals_by_value _ tells_digits) w (are_digits w e) (some_digit w e) lead (omega (arith, small)) in
    (omega (arith, same, small), ap decimal (sym same) ∙ spelled)

pub plain_number_text : (w : List ℕ) (m : ℕ) → plain_number w ≡ Some m → (m < 2 ^ 32) × (decimal m ≡ w)
plain_number_text w m h = text_when w m (has_leading_zero w) (is_number w) refl refl h
