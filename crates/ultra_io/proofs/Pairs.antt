-- the table of the two digits of each number below 100
use Rattle.std.proofs.Common.{ℕ, zero, suc, ◌≡◌, ◌+◌, ◌*◌, ◌/◌, ◌%◌, ◌<◌, List, [], ◌∷◌, get_or, Bool, true, ◌&&◌, refl, ap₂}
use Rattle.std.specs.Prelude.{◌==◌}
use Rattle.std.proofs.lemmas.Bool.{and_parts, eqb-true, Decides.Decides-below_and}
use Rattle.ultra_io.specs.{FilledBytes.two_digits, declared.filled_bytes.TheConstants.PAIRS}

abbrev pub pairs : List ℕ
pairs = PAIRS.now

abbrev has_digits : ℕ → Bool
has_digits n = (get_or pairs (2 * n) 0 == 48 + n / 10) && (get_or pairs (2 * n + 1) 0 == 48 + n % 10)

all_have : ℕ → Bool
all_have zero = true
all_have (suc n) = has_digits n && all_have n

all_right : all_have 100 ≡ true
unfolding all_have
all_right = refl

each_has : (n : ℕ) → n < 100 → has_digits n ≡ true
unfolding all_have
each_has = (Decides-below_and has_digits (λ k. has_digits k ≡ true) all_have (λ k. (λ e. e, λ e. e)) refl (λ _. refl) 100).0 all_right

pub pair_is : (n : ℕ) → n < 100 → get_or pairs (2 * n) 0 ∷ get_or pairs (2 * n + 1) 0 ∷ [] ≡ two_digits n
pair_is n within =
    let e = and_parts _ _ (each_has n within) in
    ap₂ (λ x y. x ∷ y ∷ []) (eqb-true _ _ e.0) (eqb-true _ _ e.1)
