-- the numbers that `parse` reads
use Rattle.std.proofs.Common.{arith, ◌≡◌, ◌∙◌, ◌<◌, ◌^◌, ℕ, Bool, true, false, List, [], ◌∷◌, length, Option, Some, None, ap, refl, sym}
use Rattle.std.proofs.lemmas.Bool.{ltb-true, lt-ltb}
use Rattle.std.specs.Prelude.{◌&&◌, nat_lt, Result, Ok, Err, option_and_then, if◌then◌else◌}
use Rattle.std.specs.{Char.digit_value, Str.Parse.{AllDigits, IsNumeral, ParsesUnsigned, digits_value, without_leading_plus}}
use Rattle.clap.specs.Words.{Text, ReadsOne}
use Rattle.ultra_args.specs.Asked.{all_digits, number_below}

both : (a b : Bool) → (a && b) ≡ true → (a ≡ true) × (b ≡ true)
both true true e = (refl, refl)
both true false e = cc
both false true e = cc
both false false e = cc

digits_from : (ds : List ℕ) → all_digits ds ≡ true → AllDigits 10 ds
digits_from [] e = tt
digits_from (d ∷ ds) e =
    let parts = both _ _ e in
    (ltb-true _ _ parts.0, digits_from ds parts.1)

digits_back : (ds : List ℕ) → AllDigits 10 ds → all_digits ds ≡ true
digits_back [] h = refl
digits_back (d ∷ ds) h = rw (lt-ltb (digit_value d) 10 h.0) (digits_back ds h.1)

module _ (limit : ℕ) (ds : List ℕ) where
  below_some : IsNumeral 10 ds × (digits_value 10 ds < limit) → number_below limit ds ≡ Some (digits_value 10 ds)
  below_some h = rw (lt-ltb 0 (length ds) h.0.0, digits_back ds h.0.1, lt-ltb (digits_value 10 ds) limit h.1) refl

  below_none : ¬ (IsNumeral 10 ds × (digits_value 10 ds < limit)) → number_below limit ds ≡ None
  below_none never = go (nat_lt 0 (length ds)) (all_digits ds) (nat_lt (digits_value 10 ds) limit) refl refl refl
    where
      go : (a b c : Bool) → nat_lt 0 (length ds) ≡ a → all_digits ds ≡ b → nat_lt (digits_value 10 ds) limit ≡ c → (if a && (b && c) then Some (digits_value 10 ds) else None) ≡ None
      go true true true some all low = absurd (never ((ltb-true _ _ some, digits_from ds all), ltb-true _ _ low))
      go true true false some all low = refl
      go true false c some all low = refl
      go false b c some all low = refl

module _ (E : Type 0) (k : ℕ) where
  -- a parse, as an option
  pub parsed : (t : Text) (r : Result ℕ E) → ParsesUnsigned k 10 t r → (o : Option ℕ) → ((n : ℕ) → r ≡ Ok n → o ≡ Some n) → ((e : E) → r ≡ Err e → o ≡ None) → o ≡ number_below (2 ^ k) (without_leading_plus t)
  parsed t (Ok n) h o some none = some n refl ∙ (ap (λ m. Some m) h.1 ∙ sym (below_some (2 ^ k) (without_leading_plus t) h.0))
  parsed t (Err e) h o some none = none e refl ∙ sym (below_none (2 ^ k) (without_leading_plus t) h)

  -- the number that `get_one` reads
  pub read_number : (G : List ℕ → Result ℕ E → Type 0) → ((u : List ℕ) (x : Result ℕ E) → G u x → ParsesUnsigned k 10 u x) → (o : Option Text) (r : Option ℕ) → (o ≡ None → r ≡ None) → ((t : Text) → o ≡ Some t → ReadsOne G t r) → r ≡ option_and_then (λ t. number_below (2 ^ k) (without_leading_plus t)) o
  read_number G only None r none some = none refl
  read_number G only (Some t) r none some = go r (some t refl)
    where
      go : (r : Option ℕ) → ReadsOne G t r → r ≡ number_below (2 ^ k) (without_leading_plus t)
      go (Some n) h = parsed t (Ok n) (only t (Ok n) h) (Some n) (λ m e. grind arith) (λ e is. cc)
      go None h = parsed t (Err h.0) (only t (Err h.0) h.1) None (λ m e. cc) (λ e is. refl)
