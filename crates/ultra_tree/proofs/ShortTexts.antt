-- what is added to a short text
use Rattle.std.proofs.Common.{◌≡◌, ℕ, zero, suc, ◌+◌, ◌/◌, ◌%◌, ◌^◌, ◌<◌, ◌≤◌, List, [], ◌∷◌, ◌++◌, length, decimal, codes, ap, refl, sym, ◌∙◌, arith, append_assoc}
use Rattle.std.proofs.lemmas.Fmt.{decimal_digit, decimal_step, length-decimal-le}
use Rattle.ultra_tree.specs.Text.{closings}

-- how many digits there are at most
pub few_digits : (n : ℕ) → n < 2 ^ 32 → length (decimal n) ≤ 10
few_digits n fits = length-decimal-le 10 n (omega arith) (omega arith) (omega arith)

decimal_two : (n : ℕ) → 10 ≤ n → n < 100 → decimal n ≡ (48 + n / 10) ∷ (48 + n % 10) ∷ []
decimal_two n least most = rw (decimal_step n least (omega arith), decimal_digit (n / 10) (omega arith)) refl

pub one_digit : (text : List ℕ) (n : ℕ) → n < 10 → text ++ (48 + n) ∷ [] ≡ text ++ decimal n
one_digit text n l = ap (λ t. text ++ t) (sym (decimal_digit n l))

pub two_digits_more : (text : List ℕ) (n : ℕ) → 10 ≤ n → n < 100 → (text ++ (48 + n / 10) ∷ []) ++ (48 + n % 10) ∷ [] ≡ text ++ decimal n
two_digits_more text n least most = append_assoc text ((48 + n / 10) ∷ []) ((48 + n % 10) ∷ []) ∙ ap (λ t. text ++ t) (sym (decimal_two n least most))

closings_last : (n : ℕ) → closings (n + 1) ≡ closings n ++ codes "]"
closings_last zero = refl
closings_last (suc n) =
    let more : suc n + 1 ≡ suc (n + 1) = omega arith in
    ap (λ k. closings k) more ∙ ap (λ t. codes "]" ++ t) (closings_last n)

pub one_closing_more : (text : List ℕ) (n : ℕ) → (text ++ closings n) ++ codes "]" ≡ text ++ closings (n + 1)
one_closing_more text n = append_assoc text (closings n) (codes "]") ∙ ap (λ t. text ++ t) (sym (closings_last n))
